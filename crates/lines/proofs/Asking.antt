-- When a reader of lines calls `read`.
use Rattle.std.proofs.Common.{◌≡◌, ℕ, ◌≤◌, List, ◌++◌, [], length, Option, Some, None, refl, sym, ap, subst, ◌∙◌, inl, inr, append_assoc, arith}
use Rattle.std.specs.Prelude.{unwrap_or}
use Rattle.std.specs.Io.KnownBytes.{Consumes, Keeps, prepend_known}
use Rattle.std.proofs.lemmas.List.Elements.{All-append}
use Rattle.lines.specs.Lines.{HasNoNewline}
use Rattle.lines.specs.Reading.{Reading, input_left, StopsInLine, CameWithLast, AsksInNeed}

-- a call that gave bytes, and one that failed
pub came_given : (old more : List ℕ) (before after : Option (List ℕ)) (n : ℕ) → HasNoNewline old → length more ≡ n → Consumes before after more
    → CameWithLast (prepend_known old before) after n
came_given old more None after n h l e = tt
came_given old more (Some xs) None n h l e = e
came_given old more (Some xs) (Some ys) n h l e = (old, more, h, l, ap (λ zs. old ++ zs) e)

pub came_keeps : (old : List ℕ) (before after : Option (List ℕ)) → HasNoNewline old → Keeps before after → CameWithLast (prepend_known old before) after 0
came_keeps old None after h e = tt
came_keeps old (Some xs) None h e = e
came_keeps old (Some xs) (Some ys) h e = (old, [], h, refl, ap (λ zs. old ++ zs) (sym e))

came_behind : (before mid after : Option (List ℕ)) (n : ℕ) → StopsInLine before mid → CameWithLast mid after n → CameWithLast before after n
came_behind None mid after n s c = tt
came_behind (Some xs) None after n s c = absurd s
came_behind (Some xs) (Some ys) None n s c = c
came_behind (Some xs) (Some ys) (Some zs) n s c =
    (s.0 ++ c.0, c.1, All-append (λ b. b ≡ 10 → ⊥) s.0 c.0 s.1 c.2, c.3, s.2 ∙ ap (λ ws. s.0 ++ ws) c.4 ∙ sym (append_assoc s.0 c.0 (c.1 ++ zs)))

-- the calls are those of a state, and its input is known as before
pub asks_same : (s : Reading) (k : Option (List ℕ)) (t u : Reading) (m : Option (List ℕ)) → AsksInNeed s k t m → u.calls ≡ t.calls → u.last_read ≡ t.last_read
    → AsksInNeed s k u m
asks_same s k t u m a e f = elim a [
  | inl called ↦ inl (omega (arith, e, called.0), subst (λ r. CameWithLast (input_left s k) m (unwrap_or r 0)) (sym f) called.1)
  | inr none ↦ inr (e ∙ none.0, f ∙ none.1, none.2)
]

asks_count : (s : Reading) (k : Option (List ℕ)) (t : Reading) (m : Option (List ℕ)) → AsksInNeed s k t m → s.calls ≤ t.calls
asks_count s k t m a = elim a [ inl called ↦ omega (arith, called.0) | inr none ↦ omega (arith, none.0) ]

-- calls, and then further ones
pub asks_on : (s : Reading) (k : Option (List ℕ)) (t : Reading) (m : Option (List ℕ)) (u : Reading) (n : Option (List ℕ))
    → StopsInLine (input_left s k) (input_left t m) → AsksInNeed s k t m → AsksInNeed t m u n → AsksInNeed s k u n
asks_on s k t m u n f a b = elim b [
  | inl called ↦ inl (omega (arith, called.0, asks_count s k t m a), came_behind _ _ _ _ f called.1)
  | inr none ↦ let P : Option (List ℕ) → Type 0 = λ o. AsksInNeed s k u o in subst P (sym none.2) (asks_same s k t u m a none.0 none.1)
]

-- How far a fill is, from one word to the next.
use Rattle.std.proofs.Common.{◌≡◌, ◌≢◌, ◌⊎◌, inl, inr, ℕ, ◌+◌, ◌*◌, ◌/◌, ◌%◌, ◌^◌, ◌<◌, ◌≤◌, min, max, List, [], ◌∷◌, ◌++◌, length, Bool, true, false, not}
use Rattle.std.proofs.Common.{cond, ◌&&◌, ◌||◌, nat_eq, refl, sym, ap, ◌∙◌, subst, length-append, w64, arith}
use Rattle.std.specs.Prelude.{bit_and, bit_or}
use Rattle.std.specs.List.{slice_get}
use Rattle.std.specs.Int.{bit_at, bit_not, trailing_zeros}
use Rattle.std.proofs.lemmas.Bool.{cases_Bool, cases_eq, or_cases, and_parts, and_from, eq-eqb, eqb-true, false≢true, or_right, or_left}
use Rattle.std.proofs.lemmas.Bool.Decides.{nat_tests}
use Rattle.std.proofs.lemmas.Nat.{and_le_l}
use Rattle.std.proofs.lemmas.Nat.Bits.{bit_at-trailing_zeros, bit_at_and}
use Rattle.map_model.specs.Lists.{Each}
use Rattle.map_model.proofs.Listings.{Each-append}
use Rattle.edits.specs.declared.marks.Marks.{Marks}
use Rattle.edits.specs.declared.ground.Ground.{Ground}
use Rattle.edits.specs.declared.flood.Batch.{Batch}
use Rattle.edits.specs.declared.flood.Spread.{Spread}
use Rattle.edits.specs.Joining.{is_value}
use Rattle.edits.specs.Marks.{is_marked, room}
use Rattle.edits.specs.Flooding.{AreNear, AreSideBySide, InBatch, IsBatch, IsClosed, IsLed, IsSound, Means, Spreads, Waits, free_at, taken_at, work_left}
use Rattle.edits.proofs.Flooded.{free_at-within}
use Rattle.edits.proofs.Joined.{count-le, count-lt}
use Rattle.edits.proofs.Marking.{has_and, has_not, has_or}

-- ---- batches that wait
pub Waits-more : (bs cs : List Batch) (p : ℕ) → Waits bs p → Waits (bs ++ cs) p
Waits-more [] cs p h = absurd h
Waits-more (b ∷ bs) cs p (inl h) = inl h
Waits-more (b ∷ bs) cs p (inr h) = inr (Waits-more bs cs p h)

pub Waits-last : (bs cs : List Batch) (p : ℕ) → Waits cs p → Waits (bs ++ cs) p
Waits-last [] cs p h = h
Waits-last (b ∷ bs) cs p h = inr (Waits-last bs cs p h)

pub Waits-turned : (bs : List Batch) (b : Batch) (p : ℕ) → Waits (bs ++ b ∷ []) p → Waits (b ∷ bs) p
Waits-turned [] b p h = h
Waits-turned (c ∷ bs) b p (inl h) = inr (inl h)
Waits-turned (c ∷ bs) b p (inr h) = elim (Waits-turned bs b p h) [ inl i ↦ inl i | inr i ↦ inr (inr i) ]

pub Waits-none : (bs : List Batch) (p : ℕ) → length bs ≡ 0 → Waits bs p → ⊥
Waits-none [] p none h = h
Waits-none (b ∷ bs) p none h = absurd (omega arith)

pub Each-turned : (s : Spread) (bs : List Batch) (b : Batch) → Each (IsBatch s) (bs ++ b ∷ []) → IsBatch s b × Each (IsBatch s) bs
Each-turned s [] b h = (h.0, tt)
Each-turned s (c ∷ bs) b h = let rest = Each-turned s bs b h.1 in (rest.0, (h.0, rest.1))

module _ (g : Ground) where
  pub Spreads-same : (s : Spread) → Spreads g s s
  Spreads-same s = record { keeps = λ p h. h; waits = λ p h. h; fresh = λ p h. inl h; work = omega arith }

  pub Spreads-then : (s t u : Spread) → Spreads g s t → Spreads g t u → Spreads g s u
  Spreads-then s t u a b = record {
    keeps = λ p h. b.keeps p (a.keeps p h);
    waits = λ p h. b.waits p (a.waits p h);
    fresh = λ p h. elim (b.fresh p h) [ inl e ↦ elim (a.fresh p e) [ inl f ↦ inl f | inr f ↦ inr (b.waits p f) ] | inr e ↦ inr e ];
    work = omega (arith, a.work, b.work);
  }

pub IsBatch-keeps : (s t : Spread) (b : Batch) → room t.open ≡ room s.open → ((p : ℕ) → taken_at s p ≡ true → taken_at t p ≡ true) → IsBatch s b → IsBatch t b
IsBatch-keeps s t b rooms keeps h = record { within = omega (arith, rooms, h.within); taken = λ p i. keeps p (h.taken p i) }

Each-keeps : (s t : Spread) (bs : List Batch) → room t.open ≡ room s.open → ((p : ℕ) → taken_at s p ≡ true → taken_at t p ≡ true) → Each (IsBatch s) bs
    → Each (IsBatch t) bs
Each-keeps s t [] rooms keeps h = tt
Each-keeps s t (b ∷ bs) rooms keeps h = (IsBatch-keeps s t b rooms keeps h.0, Each-keeps s t bs rooms keeps h.1)

-- ---- what the marks mean
pub taken-two : (s : Spread) (p : ℕ) (o k : Bool) → is_marked s.open p ≡ o → is_marked s.taken p ≡ k → taken_at s p ≡ (k && not o)
unfolding taken_at
taken-two s p o k e f = ap (λ x. x && not (is_marked s.open p)) f ∙ ap (λ x. k && not x) e

-- a free number that is not open is taken
pub taken-unless_open : (g : Ground) (s : Spread) (p : ℕ) → Means g p (is_marked s.open p) (is_marked s.taken p) → is_marked s.open p ≡ false
    → free_at g p ≡ true → taken_at s p ≡ true
taken-unless_open g s p means closed free = by_marks (is_marked s.open p) refl (is_marked s.taken p) refl means
  where
    by_marks : (o : Bool) → is_marked s.open p ≡ o → (k : Bool) → is_marked s.taken p ≡ k → Means g p o k → taken_at s p ≡ true
    by_marks true e k f m = absurd (false≢true (sym closed ∙ e))
    by_marks false e true f m = taken-two s p false true e f
    by_marks false e false f m = absurd (false≢true (sym m ∙ free))

-- a number that is open, and not also taken, is free
pub free-opened : (g : Ground) (s : Spread) (p : ℕ) → Means g p (is_marked s.open p) (is_marked s.taken p) → (is_marked s.open p && is_marked s.taken p) ≡ false
    → is_marked s.open p ≡ true → free_at g p ≡ true
free-opened g s p means seen opened = by_marks (is_marked s.open p) refl (is_marked s.taken p) refl means
  where
    by_marks : (o : Bool) → is_marked s.open p ≡ o → (k : Bool) → is_marked s.taken p ≡ k → Means g p o k → free_at g p ≡ true
    by_marks false e k f m = absurd (false≢true (sym e ∙ opened))
    by_marks true e true f m = absurd (false≢true (sym seen ∙ ap (λ x. x && is_marked s.taken p) e ∙ f))
    by_marks true e false f m = m

-- ---- a word is set
-- the marks of a word are the bits
abbrev pub IsWordSet : Marks → Marks → ℕ → ℕ → Type 0
IsWordSet old new word bits = (k : ℕ) → is_marked new k ≡ cond (nat_eq (k / 64) word) (nat_eq (bit_at bits (k % 64)) 1) (is_marked old k)

-- the bits are the marks of the word
abbrev pub AreBits : Marks → ℕ → ℕ → Type 0
AreBits marks word bits = (i : ℕ) → i < 64 → nat_eq (bit_at bits i) 1 ≡ is_marked marks (64 * word + i)

in_word : (p word : ℕ) → p / 64 ≡ word → (p % 64 < 64) × (64 * word + p % 64 ≡ p)
in_word p word e = (omega arith, omega arith)

module _ (old new : Marks) (word bits : ℕ) (set : IsWordSet old new word bits) (p : ℕ) where
  set_here : p / 64 ≡ word → is_marked new p ≡ nat_eq (bit_at bits (p % 64)) 1
  set_here e = set p ∙ ap (λ b. cond b (nat_eq (bit_at bits (p % 64)) 1) (is_marked old p)) (eq-eqb (p / 64) word e)

  set_there : p / 64 ≢ word → is_marked new p ≡ is_marked old p
  set_there other =
      let differ : nat_eq (p / 64) word ≡ false = grind (arith, nat_tests) in
      set p ∙ ap (λ b. cond b (nat_eq (bit_at bits (p % 64)) 1) (is_marked old p)) differ

bits_here : (marks : Marks) (word bits p : ℕ) → AreBits marks word bits → p / 64 ≡ word → nat_eq (bit_at bits (p % 64)) 1 ≡ is_marked marks p
bits_here marks word bits p are e = let at = in_word p word e in are (p % 64) at.0 ∙ ap (is_marked marks) at.1

-- ---- the values of a word are looked at
Means-seen : (g : Ground) (p : ℕ) (o k e : Bool) → e ≡ is_value (slice_get g.tiles.now p) g.value → Means g p o k
    → Means g p (o && (not (o && k) || e)) (k && not (o && k))
Means-seen g p true true true same h = h ∙ sym same
Means-seen g p true true false same h = h ∙ sym same
Means-seen g p true false e same h = h
Means-seen g p false true e same h = h
Means-seen g p false false e same h = h

taken-seen : (o k e : Bool) → ((k && not (o && k)) && not (o && (not (o && k) || e))) ≡ (k && not o)
taken-seen true true e = refl
taken-seen true false e = refl
taken-seen false true e = refl
taken-seen false false e = refl

not_both-seen : (o k e : Bool) → ((o && (not (o && k) || e)) && (k && not (o && k))) ≡ false
not_both-seen true true true = refl
not_both-seen true true false = refl
not_both-seen true false e = refl
not_both-seen false k e = refl

abbrev pub unseen_of : ℕ → ℕ → ℕ
unseen_of opened taken = bit_not w64 (bit_and opened taken)

module _ (g : Ground) (s t : Spread) (word opened taken equal : ℕ) (fits : opened < 2 ^ 64) (opens : AreBits s.open word opened)
    (takens : AreBits s.taken word taken)
    (equals : (i : ℕ) → i < 64 → nat_eq (bit_at equal i) 1 ≡ is_value (slice_get g.tiles.now (64 * word + i)) g.value)
    (open_set : IsWordSet s.open t.open word (bit_and opened (bit_or (unseen_of opened taken) equal)))
    (taken_set : IsWordSet s.taken t.taken word (bit_and taken (unseen_of opened taken)))
    (open_room : room t.open ≡ room s.open) (taken_room : room t.taken ≡ room s.taken) (pending : t.pending.items ≡ s.pending.items) (first : t.first ≡ s.first)
    (end : t.end ≡ s.end)
    (h : IsSound g s) where
  seen-here : (p : ℕ) → p / 64 ≡ word → (e : Bool) × (e ≡ is_value (slice_get g.tiles.now p) g.value)
      × (is_marked t.open p ≡ (is_marked s.open p && (not (is_marked s.open p && is_marked s.taken p) || e)))
      × (is_marked t.taken p ≡ (is_marked s.taken p && not (is_marked s.open p && is_marked s.taken p)))
  seen-here p at =
      let i = p % 64 in
      let o = bits_here s.open word opened p opens at in
      let k = bits_here s.taken word taken p takens at in
      let number = in_word p word at in
      let e = nat_eq (bit_at equal i) 1 in
      let small : bit_and opened taken < 2 ^ 64 = omega (arith, and_le_l opened taken) in
      let unseen = has_not (bit_and opened taken) i small number.0
      ∙ ap not (has_and opened taken i ∙ ap (λ b. b && nat_eq (bit_at taken i) 1) o ∙ ap (λ b. is_marked s.open p && b) k) in (
        e,
        equals i number.0 ∙ ap (λ n. is_value (slice_get g.tiles.now n) g.value) number.1,
        set_here s.open t.open word _ open_set p at ∙ has_and opened (bit_or (unseen_of opened taken) equal) i
            ∙ ap (λ b. b && nat_eq (bit_at (bit_or (unseen_of opened taken) equal) i) 1) o
            ∙ ap (λ b. is_marked s.open p && b) (has_or (unseen_of opened taken) equal i ∙ ap (λ b. b || e) unseen),
        set_here s.taken t.taken word _ taken_set p at ∙ has_and taken (unseen_of opened taken) i
            ∙ ap (λ b. b && nat_eq (bit_at (unseen_of opened taken) i) 1) k
            ∙ ap (λ b. is_marked s.taken p && b) unseen,
      )

  seen-taken : (p : ℕ) → taken_at t p ≡ taken_at s p
  seen-taken p = elim (cases_eq (p / 64) word) [
    | inl at ↦ let here = seen-here p at in
        taken-two t p _ _ here.2 here.3 ∙ taken-seen (is_marked s.open p) (is_marked s.taken p) here.0
        ∙ sym (taken-two s p (is_marked s.open p) (is_marked s.taken p) refl refl)
    | inr other ↦ taken-two t p _ _ (set_there s.open t.open word _ open_set p other) (set_there s.taken t.taken word _ taken_set p other)
        ∙ sym (taken-two s p (is_marked s.open p) (is_marked s.taken p) refl refl)
  ]

  seen-numbers : (p : ℕ) → Means g p (is_marked t.open p) (is_marked t.taken p)
  seen-numbers p = elim (cases_eq (p / 64) word) [
    | inl at ↦ let here = seen-here p at in rw (here.2, here.3) (Means-seen g p (is_marked s.open p) (is_marked s.taken p) here.0 here.1 (h.numbers p))
    | inr other ↦ rw (set_there s.open t.open word _ open_set p other, set_there s.taken t.taken word _ taken_set p other) (h.numbers p)
  ]

  pub seen-not_both : (i : ℕ) → i < 64 → (is_marked t.open (64 * word + i) && is_marked t.taken (64 * word + i)) ≡ false
  seen-not_both i l =
      let p = 64 * word + i in
      let here = seen-here p (omega arith) in
      ap (λ b. b && is_marked t.taken p) here.2 ∙ ap (λ b. (is_marked s.open p && (not (is_marked s.open p && is_marked s.taken p) || here.0)) && b) here.3
      ∙ not_both-seen (is_marked s.open p) (is_marked s.taken p) here.0

  pub IsSound-seen : IsSound g t
  IsSound-seen = record {
    large = omega (arith, h.large, open_room);
    same_room = omega (arith, h.same_room, open_room, taken_room);
    small = omega (arith, h.small, open_room);
    numbers = seen-numbers;
    led = λ p e. h.led p (sym (seen-taken p) ∙ e);
    inner = λ p r e at side free. seen-taken r ∙ h.inner p r (sym (seen-taken p) ∙ e) at side free;
    pending = subst (λ (bs : List Batch). Each (IsBatch t) bs) (sym pending) (Each-keeps s t s.pending.items open_room (λ p e. seen-taken p ∙ e) h.pending);
    from = λ p e. omega (arith, first, h.from p (sym (seen-taken p) ∙ e));
    to = λ p e. omega (arith, end, h.to p (sym (seen-taken p) ∙ e));
    first = omega (arith, first, h.first, open_room);
    end = omega (arith, end, h.end, open_room);
  }

  pub Spreads-seen : Spreads g s t
  Spreads-seen = record {
    keeps = λ p e. seen-taken p ∙ e;
    waits = λ p w. subst (λ (bs : List Batch). Waits bs p) (sym pending) w;
    fresh = λ p e. inl (sym (seen-taken p) ∙ e);
    work = omega (
      arith,
      ap length pending,
      count-le (λ k. not (taken_at t k)) (λ k. not (taken_at s k)) (length g.tiles.now)
          (λ k l e. ap not (sym (seen-taken k)) ∙ e),
    );
  }

-- ---- cells of a word are taken
Means-taken : (g : Ground) (p : ℕ) (o k b : Bool) → (o && k) ≡ false → (b ≡ true → o ≡ true) → Means g p o k → Means g p (o && not b) (k || b)
Means-taken g p true true b both inside h = absurd (false≢true (sym both))
Means-taken g p true false true both inside h = h
Means-taken g p true false false both inside h = h
Means-taken g p false k true both inside h = absurd (false≢true (inside refl))
Means-taken g p false true false both inside h = h
Means-taken g p false false false both inside h = h

taken-more : (o k b : Bool) → ((k || b) && not (o && not b)) ≡ ((k && not o) || b)
taken-more true true true = refl
taken-more true true false = refl
taken-more true false true = refl
taken-more true false false = refl
taken-more false true b = refl
taken-more false false true = refl
taken-more false false false = refl

not_before : (a b : Bool) → not (a || b) ≡ true → not a ≡ true
not_before true b h = h
not_before false b h = refl

module _ (g : Ground) (s t : Spread) (word opened taken bits : ℕ) (fits : bits < 2 ^ 64) (width : 0 < g.width) (some : bits ≢ 0)
    (opens : AreBits s.open word opened) (takens : AreBits s.taken word taken)
    (not_both : (i : ℕ) → i < 64 → (is_marked s.open (64 * word + i) && is_marked s.taken (64 * word + i)) ≡ false)
    (led : (i : ℕ) → i < 64 → bit_at bits i ≡ 1 → (bit_at opened i ≡ 1) × IsLed g (64 * word + i))
    (closed : (i j : ℕ) → i < 64 → j < 64 → AreSideBySide g (64 * word + i) (64 * word + j) → bit_at bits i ≡ 1 → bit_at opened j ≡ 1 → bit_at bits j ≡ 1)
    (open_set : IsWordSet s.open t.open word (bit_and opened (bit_not w64 bits))) (taken_set : IsWordSet s.taken t.taken word (bit_or taken bits))
    (open_room : room t.open ≡ room s.open) (taken_room : room t.taken ≡ room s.taken)
    (pending : t.pending.items ≡ s.pending.items ++ record { word = word; bits = bits } ∷ []) (first : t.first ≡ min s.first word)
    (end : t.end ≡ max s.end (word + 1))
    (within : 64 * word < room s.open) (h : IsSound g s) where
  -- whether a number is one of the new ones
  is_new : ℕ → Bool
  is_new p = nat_eq (p / 64) word && nat_eq (bit_at bits (p % 64)) 1

  new-in : (p : ℕ) → is_new p ≡ true → InBatch (record { word = word; bits = bits }) p
  unfolding is_new
  new-in p e = let both = and_parts (nat_eq (p / 64) word) (nat_eq (bit_at bits (p % 64)) 1) e in
      (eqb-true (p / 64) word both.0, eqb-true (bit_at bits (p % 64)) 1 both.1)

  in-new : (p : ℕ) → InBatch (record { word = word; bits = bits }) p → is_new p ≡ true
  unfolding is_new
  in-new p b = and_from (nat_eq (p / 64) word) (nat_eq (bit_at bits (p % 64)) 1) (eq-eqb (p / 64) word b.0) (eq-eqb (bit_at bits (p % 64)) 1 b.1)

  new-at : (i : ℕ) → i < 64 → bit_at bits i ≡ 1 → is_new (64 * word + i) ≡ true
  unfolding is_new
  new-at i l e =
      let at : (64 * word + i) / 64 ≡ word = omega arith in
      let bit : (64 * word + i) % 64 ≡ i = omega arith in
      and_from (nat_eq ((64 * word + i) / 64) word) _ (eq-eqb ((64 * word + i) / 64) word at)
      (eq-eqb (bit_at bits ((64 * word + i) % 64)) 1 (ap (bit_at bits) bit ∙ e))

  new-open : (p : ℕ) → is_new p ≡ true → (is_marked s.open p ≡ true) × IsLed g p
  new-open p e =
      let b = new-in p e in
      let number = in_word p word b.0 in
      let inside = led (p % 64) number.0 b.1 in
      (sym (bits_here s.open word opened p opens b.0) ∙ eq-eqb (bit_at opened (p % 64)) 1 inside.0, subst (IsLed g) number.1 inside.1)

  new-numbers : (p : ℕ) → (is_marked t.open p ≡ (is_marked s.open p && not (is_new p))) × (is_marked t.taken p ≡ (is_marked s.taken p || is_new p))
  unfolding is_new
  new-numbers p = elim (cases_eq (p / 64) word) [
    | inl at ↦
        let i = p % 64 in
        let number = in_word p word at in
        let here : nat_eq (bit_at bits i) 1 ≡ is_new p = sym (ap (λ b. b && nat_eq (bit_at bits i) 1) (eq-eqb (p / 64) word at)) in (
          set_here s.open t.open word _ open_set p at ∙ has_and opened (bit_not w64 bits) i
              ∙ ap (λ b. b && nat_eq (bit_at (bit_not w64 bits) i) 1) (bits_here s.open word opened p opens at)
              ∙ ap (λ b. is_marked s.open p && b) (has_not bits i fits number.0 ∙ ap not here),
          set_here s.taken t.taken word _ taken_set p at ∙ has_or taken bits i
              ∙ ap (λ b. b || nat_eq (bit_at bits i) 1) (bits_here s.taken word taken p takens at)
              ∙ ap (λ b. is_marked s.taken p || b) here,
        )
    | inr other ↦
        let differ : nat_eq (p / 64) word ≡ false = grind (arith, nat_tests) in
        let none : false ≡ is_new p = sym (ap (λ b. b && nat_eq (bit_at bits (p % 64)) 1) differ) in (
          set_there s.open t.open word _ open_set p other ∙ and_true (is_marked s.open p) ∙ ap (λ b. is_marked s.open p && not b) none,
          set_there s.taken t.taken word _ taken_set p other ∙ or_false (is_marked s.taken p) ∙ ap (λ b. is_marked s.taken p || b) none,
        )
  ]
    where
      and_true : (a : Bool) → a ≡ (a && true)
      and_true true = refl
      and_true false = refl

      or_false : (a : Bool) → a ≡ (a || false)
      or_false true = refl
      or_false false = refl

  taken-now : (p : ℕ) → taken_at t p ≡ (taken_at s p || is_new p)
  taken-now p =
      let new = new-numbers p in
      taken-two t p _ _ new.0 new.1 ∙ taken-more (is_marked s.open p) (is_marked s.taken p) (is_new p)
      ∙ ap (λ b. b || is_new p) (sym (taken-two s p (is_marked s.open p) (is_marked s.taken p) refl refl))

  taken-cases : (p : ℕ) → taken_at t p ≡ true → (taken_at s p ≡ true) ⊎ (is_new p ≡ true)
  taken-cases p e = or_cases (taken_at s p) (is_new p) (sym (taken-now p) ∙ e)

  taken-keeps : (p : ℕ) → taken_at s p ≡ true → taken_at t p ≡ true
  taken-keeps p e = taken-now p ∙ or_left (taken_at s p) (is_new p) e

  taken-new : (p : ℕ) → is_new p ≡ true → taken_at t p ≡ true
  taken-new p e = taken-now p ∙ or_right (taken_at s p) (is_new p) e

  not_both-at : (p : ℕ) → p / 64 ≡ word → (is_marked s.open p && is_marked s.taken p) ≡ false
  not_both-at p at = let number = in_word p word at in subst (λ n. (is_marked s.open n && is_marked s.taken n) ≡ false) number.1 (not_both (p % 64) number.0)

  taken-numbers : (p : ℕ) → Means g p (is_marked t.open p) (is_marked t.taken p)
  taken-numbers p =
      let new = new-numbers p in
      rw (new.0, new.1) (elim (cases_Bool (is_new p)) [
        | inl e ↦ Means-taken g p (is_marked s.open p) (is_marked s.taken p) (is_new p) (not_both-at p (new-in p e).0) (λ f. (new-open p f).0) (h.numbers p)
        | inr e ↦ same p (is_marked s.open p) (is_marked s.taken p) (is_new p) e (h.numbers p)
      ])
    where
      same : (p : ℕ) (o k b : Bool) → b ≡ false → Means g p o k → Means g p (o && not b) (k || b)
      same p o k true e m = absurd (false≢true (sym e))
      same p true true false e m = m
      same p true false false e m = m
      same p false true false e m = m
      same p false false false e m = m

  -- whatever is free beside the new ones in their word and row is new, or was taken
  taken-beside : (p r : ℕ) → is_new p ≡ true → p / 64 ≡ r / 64 → AreSideBySide g p r → free_at g r ≡ true → taken_at t r ≡ true
  taken-beside p r e at side free =
      let b = new-in p e in
      let here : r / 64 ≡ word = omega (arith, b.0) in
      let from = in_word p word b.0 in
      let to = in_word r word here in
      elim (cases_Bool (is_marked s.open r)) [
        | inr shut ↦ taken-keeps r (taken-unless_open g s r (h.numbers r) shut free)
        | inl is_open ↦
            let on : bit_at opened (r % 64) ≡ 1 = eqb-true (bit_at opened (r % 64)) 1 (bits_here s.open word opened r opens here ∙ is_open) in
            let beside : AreSideBySide g (64 * word + p % 64) (64 * word + r % 64) =
            subst (λ n. AreSideBySide g n (64 * word + r % 64)) (sym from.1) (subst (AreSideBySide g p) (sym to.1) side) in
            taken-new r (subst (λ n. is_new n ≡ true) to.1 (new-at (r % 64) to.0 (closed (p % 64) (r % 64) from.0 to.0 beside b.1 on)))
      ]

  taken-room : 64 * word + 64 ≤ room s.open
  taken-room = omega (arith, within)

  pub IsSound-taken : IsSound g t
  IsSound-taken = record {
    large = omega (arith, h.large, open_room);
    same_room = omega (arith, h.same_room, open_room, taken_room);
    small = omega (arith, h.small, open_room);
    numbers = taken-numbers;
    led = λ p e. elim (taken-cases p e) [ inl f ↦ h.led p f | inr f ↦ (new-open p f).1 ];
    inner = λ p r e at side free. elim (taken-cases p e) [ inl f ↦ taken-keeps r (h.inner p r f at side free) | inr f ↦ taken-beside p r f at side free ];
    pending = subst (λ (bs : List Batch). Each (IsBatch t) bs) (sym pending)
        (Each-append (IsBatch t) s.pending.items (record { word = word; bits = bits } ∷ []) (Each-keeps s t s.pending.items open_room taken-keeps h.pending) (
          record {
            within = omega (arith, within, open_room);
            taken = λ p b. taken-new p (in-new p b);
          },
          tt,
        ));
    from = λ p e. elim (taken-cases p e) [ inl f ↦ omega (arith, first, h.from p f) | inr f ↦ let b = new-in p f in omega (arith, first, b.0) ];
    to = λ p e. elim (taken-cases p e) [ inl f ↦ omega (arith, end, h.to p f) | inr f ↦ let b = new-in p f in omega (arith, end, b.0) ];
    first = omega (arith, first, h.first, open_room);
    end = omega (arith, end, h.end, open_room, taken-room);
  }

  taken-work : work_left g t ≤ work_left g s
  taken-work =
      let lowest = bit_at-trailing_zeros w64 bits (omega arith) fits in
      let i = trailing_zeros w64 bits in
      let p = 64 * word + i in
      let new = new-at i lowest.0 lowest.1 in
      let is_open = new-open p new in
      let free = free-opened g s p (h.numbers p) (not_both i lowest.0) is_open.0 in
      let before : taken_at s p ≡ false =
      taken-two s p _ _ is_open.0 refl ∙ and_false (is_marked s.taken p) in
      let fewer = count-lt (λ k. not (taken_at t k)) (λ k. not (taken_at s k)) (length g.tiles.now) p
      (λ k l e. not_before (taken_at s k) (is_new k) (ap not (sym (taken-now k)) ∙ e))
      (free_at-within g width p free) (ap not (taken-new p new)) (ap not before) in
      let more : length t.pending.items ≡ length s.pending.items + 1 = ap length pending
      ∙ length-append s.pending.items (record { word = word; bits = bits } ∷ []) in
      omega (arith, fewer, more)
    where
      and_false : (a : Bool) → (a && false) ≡ false
      and_false true = refl
      and_false false = refl

  pub Spreads-taken : Spreads g s t
  Spreads-taken = record {
    keeps = taken-keeps;
    waits = λ p w. subst (λ (bs : List Batch). Waits bs p) (sym pending) (Waits-more s.pending.items (record { word = word; bits = bits } ∷ []) p w);
    fresh = λ p e. elim (taken-cases p e) [
      | inl f ↦ inl f
      | inr f ↦ inr (subst (λ (bs : List Batch). Waits bs p) (sym pending)
          (Waits-last s.pending.items (record { word = word; bits = bits } ∷ []) p (inl (new-in p f))))
    ];
    work = taken-work;
  }

  -- whatever is free of the seeds is taken
  pub taken-covers : (seeds : ℕ) → ((i : ℕ) → i < 64 → bit_at (bit_and seeds opened) i ≡ 1 → bit_at bits i ≡ 1) → (i : ℕ) → i < 64 → bit_at seeds i ≡ 1
      → free_at g (64 * word + i) ≡ true → taken_at t (64 * word + i) ≡ true
  taken-covers seeds all i l e free = elim (cases_eq (bit_at opened i) 1) [
    | inl on ↦ taken-new (64 * word + i) (new-at i l (all i l (omega (arith, bit_at_and seeds opened i, e, on))))
    | inr off ↦
        let shut : nat_eq (bit_at opened i) 1 ≡ false = grind (arith, nat_tests) in
        taken-keeps (64 * word + i) (taken-unless_open g s (64 * word + i) (h.numbers (64 * word + i)) (sym (opens i l) ∙ shut) free)
  ]

-- where none of the seeds is open, whatever is free of them was taken
pub covers-closed : (g : Ground) (s : Spread) (word opened seeds : ℕ) → AreBits s.open word opened
    → ((p : ℕ) → Means g p (is_marked s.open p) (is_marked s.taken p))
    → ((i : ℕ) → i < 64 → bit_at (bit_and seeds opened) i ≡ 1 → ⊥) → (i : ℕ) → i < 64 → bit_at seeds i ≡ 1 → free_at g (64 * word + i) ≡ true
    → taken_at s (64 * word + i) ≡ true
covers-closed g s word opened seeds opens numbers none i l e free = elim (cases_eq (bit_at opened i) 1) [
  | inl on ↦ absurd (none i l (omega (arith, bit_at_and seeds opened i, e, on)))
  | inr off ↦
      let shut : nat_eq (bit_at opened i) 1 ≡ false = grind (arith, nat_tests) in
      taken-unless_open g s (64 * word + i) (numbers (64 * word + i)) (sym (opens i l) ∙ shut) free
]

-- ---- a batch is taken off the list
module _ (g : Ground) (s t : Spread) (opens : t.open ≡ s.open) (takens : t.taken ≡ s.taken) (first : t.first ≡ s.first) (end : t.end ≡ s.end) where
  pub taken-off : (p : ℕ) → taken_at t p ≡ taken_at s p
  unfolding taken_at
  taken-off p = ap (λ (m : Marks). is_marked m p && not (is_marked t.open p)) takens ∙ ap (λ (m : Marks). is_marked s.taken p && not (is_marked m p)) opens

  pub IsSound-off : IsSound g s → Each (IsBatch s) t.pending.items → IsSound g t
  IsSound-off h left = record {
    large = omega (arith, h.large, rooms);
    same_room = ap room takens ∙ h.same_room ∙ sym rooms;
    small = omega (arith, h.small, rooms);
    numbers = λ p. subst (λ (m : Marks). Means g p (is_marked m p) (is_marked t.taken p)) (sym opens)
        (subst (λ (m : Marks). Means g p (is_marked s.open p) (is_marked m p)) (sym takens) (h.numbers p));
    led = λ p e. h.led p (sym (taken-off p) ∙ e);
    inner = λ p r e at side free. taken-off r ∙ h.inner p r (sym (taken-off p) ∙ e) at side free;
    pending = Each-keeps s t t.pending.items rooms (λ p e. taken-off p ∙ e) left;
    from = λ p e. omega (arith, first, h.from p (sym (taken-off p) ∙ e));
    to = λ p e. omega (arith, end, h.to p (sym (taken-off p) ∙ e));
    first = omega (arith, first, h.first, rooms);
    end = omega (arith, end, h.end, rooms);
  }
    where
      rooms : room t.open ≡ room s.open
      rooms = ap room opens

  module _ (b : Batch) (items : s.pending.items ≡ t.pending.items ++ b ∷ []) where
    pub pending-off : IsSound g s → IsBatch s b × Each (IsBatch s) t.pending.items
    pending-off h = Each-turned s t.pending.items b (subst (λ (bs : List Batch). Each (IsBatch s) bs) items h.pending)

    pub IsBatch-off : IsSound g s → IsBatch t b
    IsBatch-off h = IsBatch-keeps s t b (ap room opens) (λ p e. taken-off p ∙ e) (pending-off h).0

    pub work-off : work_left g t < work_left g s
    work-off =
        let less : length s.pending.items ≡ length t.pending.items + 1 = ap length items ∙ length-append t.pending.items (b ∷ []) in
        let same = count-le (λ k. not (taken_at t k)) (λ k. not (taken_at s k)) (length g.tiles.now) (λ k l e. ap not (sym (taken-off k)) ∙ e) in
        omega (arith, less, same)

    -- the batch is done with once what is free beside it is taken
    pub IsClosed-done : (u : Spread) → IsClosed g s s.pending.items → Spreads g t u
        → ((p r : ℕ) → InBatch b p → AreNear g p r → free_at g r ≡ true → taken_at u r ≡ true) → IsClosed g u u.pending.items
    IsClosed-done u closed spreads covers p r h near free = elim (spreads.fresh p h) [
      | inr waits ↦ inr waits
      | inl old ↦ elim (closed p r (sym (taken-off p) ∙ old) near free) [
        | inl taken ↦ inl (spreads.keeps r (taken-off r ∙ taken))
        | inr waits ↦ elim (Waits-turned t.pending.items b p (subst (λ (bs : List Batch). Waits bs p) items waits)) [
          | inl here ↦ inl (covers p r here near free)
          | inr later ↦ inr (spreads.waits p later)
        ]
      ]
    ]

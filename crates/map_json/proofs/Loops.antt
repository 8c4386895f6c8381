-- Elements read one after the other, as a loop does.
use Rattle.std.proofs.Common.{◌≡◌, ℕ, List, [], ◌∷◌, ◌++◌, Result, Ok, Err, refl, sym, ap, ◌∙◌, append_assoc}
use Rattle.std.proofs.lemmas.List.{append-nil}
use Rattle.serde_json.proofs.Views.{items_len-items_view}
use Rattle.serde_json.specs.Data.{Data, Items, no_items, item}
use Rattle.map_model.specs.Refusing.{◌>>=◌}
use Rattle.refusals.specs.declared.map_refusal.MapRefusal.{MapRefusal}
use Rattle.map_values.specs.declared.fault.MapFault.{MapFault}
use Rattle.map_values.specs.declared.fault.MapFault.TheVariants.{Memory, Refused}
use Rattle.map_values.specs.Presence.{Fails}
use Rattle.map_json.specs.Elements.{each, each_counted}

module _ {A : Type 0} where
  -- what was read before, and what is still read
  abbrev pub with_prefix : List A → Result (List A) MapRefusal → Result (List A) MapRefusal
  with_prefix prefix (Ok xs) = Ok (prefix ++ xs)
  with_prefix prefix (Err f) = Err f

  pub with_prefix-none : (r : Result (List A) MapRefusal) → with_prefix [] r ≡ r
  with_prefix-none (Ok xs) = refl
  with_prefix-none (Err f) = refl

  regroup : (prefix : List A) (x : A) (r : Result (List A) MapRefusal) → with_prefix prefix (r >>= λ xs. Ok (x ∷ xs)) ≡ with_prefix (prefix ++ x ∷ []) r
  regroup prefix x (Ok xs) = ap (λ (ys : List A). Ok ys) (sym (append_assoc prefix (x ∷ []) xs))
  regroup prefix x (Err f) = refl

  -- one more element
  pub with_prefix-element : (read : Data → Result A MapRefusal) (prefix : List A) (d : Data) (ds : Items) (x : A) → read d ≡ Ok x
      → with_prefix prefix (each read (item d ds)) ≡ with_prefix (prefix ++ x ∷ []) (each read ds)
  with_prefix-element read prefix d ds x e = rw e (regroup prefix x (each read ds))

  -- all elements
  pub with_prefix-all : (read : Data → Result A MapRefusal) (prefix : List A) (r : Result (List A) MapRefusal)
      → with_prefix prefix (each read no_items) ≡ r → r ≡ Ok prefix
  with_prefix-all read prefix r e = sym e ∙ ap (λ (ys : List A). Ok ys) (append-nil prefix)

  -- an element that is refused
  pub refused_element : (read : Data → Result A MapRefusal) (prefix : List A) (d : Data) (ds : Items) (e : MapFault) → Fails e (read d)
      → Fails e (with_prefix prefix (each read (item d ds)))
  refused_element read prefix d ds Memory h = tt
  refused_element read prefix d ds (Refused f) h = rw h refl

  -- what was read before, and what is still read of elements that are counted
  abbrev pub counted_prefix : List A → Result (ℕ × List A) MapRefusal → Result (ℕ × List A) MapRefusal
  counted_prefix prefix (Ok xs) = Ok (xs.0, prefix ++ xs.1)
  counted_prefix prefix (Err f) = Err f

  pub counted_prefix-none : (r : Result (ℕ × List A) MapRefusal) → counted_prefix [] r ≡ r
  counted_prefix-none (Ok xs) = refl
  counted_prefix-none (Err f) = refl

  regroup_counted : (prefix : List A) (x : A) (r : Result (ℕ × List A) MapRefusal)
      → counted_prefix prefix (r >>= λ xs. Ok (xs.0, x ∷ xs.1)) ≡ counted_prefix (prefix ++ x ∷ []) r
  regroup_counted prefix x (Ok xs) = ap (λ (ys : List A). Ok (xs.0, ys)) (sym (append_assoc prefix (x ∷ []) xs.1))
  regroup_counted prefix x (Err f) = refl

  pub counted_prefix-element : (read : ℕ → Data → Result (ℕ × A) MapRefusal) (prefix : List A) (count then : ℕ) (d : Data) (ds : Items) (x : A)
      → read count d ≡ Ok (then, x)
      → counted_prefix prefix (each_counted read count (item d ds)) ≡ counted_prefix (prefix ++ x ∷ []) (each_counted read then ds)
  counted_prefix-element read prefix count then d ds x e = rw e (regroup_counted prefix x (each_counted read then ds))

  -- all counted elements
  pub counted_prefix-all : (read : ℕ → Data → Result (ℕ × A) MapRefusal) (prefix : List A) (count : ℕ) (r : Result (ℕ × List A) MapRefusal)
      → counted_prefix prefix (each_counted read count no_items) ≡ r → r ≡ Ok (count, prefix)
  counted_prefix-all read prefix count r e = sym e ∙ ap (λ (ys : List A). Ok (count, ys)) (append-nil prefix)

  pub refused_counted : (read : ℕ → Data → Result (ℕ × A) MapRefusal) (prefix : List A) (count : ℕ) (d : Data) (ds : Items) (e : MapFault)
      → Fails e (read count d) → Fails e (counted_prefix prefix (each_counted read count (item d ds)))
  refused_counted read prefix count d ds Memory h = tt
  refused_counted read prefix count d ds (Refused f) h = rw h refl

pub ruleset lengths = (items_len-items_view)

-- Arrays whose elements are read one after the other.
use Rattle.std.specs.Prelude.{ℕ, List, [], ◌∷◌, nat_le, if◌then◌else◌, Result, Ok, Err}
use Rattle.std.specs.Option.{ok_or}
use Rattle.serde_json.specs.Data.{Data, Items, no_items, item}
use Rattle.serde_json.specs.Find.{as_array}
use Rattle.serde_json.specs.Events.{items_len}
use Rattle.map_model.specs.Refusing.{◌>>=◌}
use Rattle.refusals.specs.declared.map_refusal.MapRefusal.{MapRefusal}
use Rattle.refusals.specs.declared.map_refusal.MapRefusal.TheVariants.{MemberOfAnotherKind, OverLimit}

-- each element in turn
abbrev pub each : {A : Type 0} → (Data → Result A MapRefusal) → Items → Result (List A) MapRefusal
each read no_items = Ok []
each read (item d ds) = read d >>= (λ x. each read ds >>= (λ xs. Ok (x ∷ xs)))

-- an array that is not too long, and its elements
abbrev pub elements_at : {A : Type 0} → ℕ → (Data → Result A MapRefusal) → Data → Result (List A) MapRefusal
elements_at most read d = do
  ds ← ok_or (as_array d) MemberOfAnotherKind
  if nat_le (items_len ds) most then each read ds else Err OverLimit

-- a reader that is told how many layers were counted before, and tells how many then
abbrev pub Counting : Type 0 → Type 0
Counting A = ℕ → Data → Result (ℕ × A) MapRefusal

-- each element in turn, by such a reader
abbrev pub each_counted : {A : Type 0} → Counting A → ℕ → Items → Result (ℕ × List A) MapRefusal
each_counted read count no_items = Ok (count, [])
each_counted read count (item d ds) = read count d >>= (λ x. each_counted read x.0 ds >>= (λ xs. Ok (xs.0, x.1 ∷ xs.1)))

-- Trees that a map can hold: a file can say them, each number is whole, and they nest at most n deep.
use Rattle.std.specs.Prelude.{IsUtf8, ℕ, zero, suc, ◌^◌, ◌<◌, pos, neg_ℤ, ◌≤ℤ◌, ◌<ℤ◌}
use Rattle.serde_json.specs.Data.{Num, unsigned, negative, float, Data, null, boolean, number, string, array, object, Items, no_items, item, Members}
use Rattle.serde_json.specs.Data.{no_members, member}
use Rattle.map_model.specs.Readable.{IsBefore}

-- a whole number of 64 bits, with or without a sign
abbrev pub IsFineNum : Num → Type 0
IsFineNum (unsigned n) = n < 2 ^ 64
IsFineNum (negative z) = (neg_ℤ (pos (2 ^ 63)) ≤ℤ z) × (z <ℤ pos 0)
IsFineNum (float x) = ⊥

abbrev mutual
  pub IsFine : ℕ → Data → Type 0
  IsFine n null = Unit {0}
  IsFine n (boolean b) = Unit {0}
  IsFine n (number x) = IsFineNum x
  IsFine n (string s) = IsUtf8 s
  IsFine zero (array ds) = ⊥
  IsFine (suc n) (array ds) = AreFineItems n ds
  IsFine zero (object ms) = ⊥
  IsFine (suc n) (object ms) = AreFineMembers n ms

  pub AreFineItems : ℕ → Items → Type 0
  AreFineItems n no_items = Unit {0}
  AreFineItems n (item d ds) = IsFine n d × AreFineItems n ds

  pub AreFineMembers : ℕ → Members → Type 0
  AreFineMembers n no_members = Unit {0}
  AreFineMembers n (member k d ms) = IsUtf8 k × IsBefore k ms × IsFine n d × AreFineMembers n ms

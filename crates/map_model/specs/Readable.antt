-- JSON data that the text of a file can say.
use Rattle.std.specs.Prelude.{◌≡◌, IsUtf8, ℕ, ◌^◌, ◌<◌, pos, neg_ℤ, ◌≤ℤ◌, ◌<ℤ◌, List}
use Rattle.std.specs.Cmp.Lexicographic.{slice_cmp}
use Rattle.std.specs.Ordering.{nat_cmp}
use Rattle.std.specs.declared.cmp.Ordering.TheVariants.{Less}
use Rattle.serde_json.specs.Data.{Num, unsigned, negative, float, Data, null, boolean, number, string, array, object, Items, no_items, item, Members}
use Rattle.serde_json.specs.Data.{no_members, member}

-- a whole number has 64 bits, and a sign only where it is below 0
abbrev pub IsReadableNumber : Num → Type 0
IsReadableNumber (unsigned n) = n < 2 ^ 64
IsReadableNumber (negative z) = (neg_ℤ (pos (2 ^ 63)) ≤ℤ z) × (z <ℤ pos 0)
IsReadableNumber (float x) = Unit {0}

-- the name stands before each of the members' names, byte by byte
abbrev pub IsBefore : List ℕ → Members → Type 0
IsBefore name no_members = Unit {0}
IsBefore name (member other d ms) = (slice_cmp nat_cmp name other ≡ Less) × IsBefore name ms

-- at each depth texts and names are UTF-8, names ascend, and whole numbers have 64 bits
abbrev mutual
  pub IsReadable : Data → Type 0
  IsReadable null = Unit {0}
  IsReadable (boolean b) = Unit {0}
  IsReadable (number n) = IsReadableNumber n
  IsReadable (string s) = IsUtf8 s
  IsReadable (array ds) = AreReadableItems ds
  IsReadable (object ms) = AreReadableMembers ms

  pub AreReadableItems : Items → Type 0
  AreReadableItems no_items = Unit {0}
  AreReadableItems (item d ds) = IsReadable d × AreReadableItems ds

  pub AreReadableMembers : Members → Type 0
  AreReadableMembers no_members = Unit {0}
  AreReadableMembers (member name d ms) = IsUtf8 name × IsBefore name ms × IsReadable d × AreReadableMembers ms

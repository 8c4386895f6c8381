-- Members that are a number, a text or a truth value: how they are read, and what is written of them.
use Rattle.std.specs.Prelude.{ℕ, ◌-◌, ℤ, neg_ℤ, List, Bool, ◌&&◌, nat_le, int_le, if◌then◌else◌, Option, Some, Result, Ok, Err}
use Rattle.std.specs.Option.{ok_or, option_map}
use Rattle.serde_json.specs.Data.{Data, Members, boolean, number, string}
use Rattle.serde_json.specs.Find.{as_number, as_u64, as_i64, as_str, as_bool, get_member, of_integer}
use Rattle.map_model.specs.declared.limits.TheConstants.{MAX_NEXT_ID, MAX_PIXELS}
use Rattle.map_model.specs.Format.{Kind, Whole, Pixels, Text, Truth, Member}
use Rattle.map_model.specs.Refusing.{◌>>=◌}
use Rattle.refusals.specs.declared.map_refusal.MapRefusal.{MapRefusal}
use Rattle.refusals.specs.declared.map_refusal.MapRefusal.TheVariants.{MemberOfAnotherKind, OverLimit}
use Rattle.map_values.specs.Arrays.{whole_tree}
use Rattle.map_values.specs.Presence.{required, absent_means, optional}

-- a whole number from low to high
unfoldable pub whole_at : ℕ → ℕ → Data → Result ℕ MapRefusal
whole_at low high d = do
  n ← ok_or (as_number d) MemberOfAnotherKind
  k ← ok_or (as_u64 n) OverLimit
  if nat_le low k && nat_le k high then Ok k else Err OverLimit

-- the same, where it may be below 0
unfoldable pub signed_at : ℤ → ℤ → Data → Result ℤ MapRefusal
signed_at low high d = do
  n ← ok_or (as_number d) MemberOfAnotherKind
  z ← ok_or (as_i64 n) OverLimit
  if int_le low z && int_le z high then Ok z else Err OverLimit

-- an id
abbrev pub id_at : Data → Result ℕ MapRefusal
id_at = whole_at 1 (MAX_NEXT_ID - 1)

-- a number of pixels
abbrev pub pixels_at : Data → Result ℤ MapRefusal
pixels_at = signed_at (neg_ℤ MAX_PIXELS) MAX_PIXELS

unfoldable pub text_at : Data → Result (List ℕ) MapRefusal
text_at d = ok_or (as_str d) MemberOfAnotherKind

unfoldable pub truth_at : Data → Result Bool MapRefusal
truth_at d = ok_or (as_bool d) MemberOfAnotherKind

-- ---- by the table of members
-- what contracts see of a value of this kind
abbrev pub ValueOf : Kind → Type 0
ValueOf (Whole low high) = ℕ
ValueOf Pixels = ℤ
ValueOf Text = List ℕ
ValueOf Truth = Bool

abbrev pub kind_at : (k : Kind) → Data → Result (ValueOf k) MapRefusal
kind_at (Whole low high) = whole_at low high
kind_at Pixels = pixels_at
kind_at Text = text_at
kind_at Truth = truth_at

abbrev pub kind_tree : (k : Kind) → ValueOf k → Data
kind_tree (Whole low high) = whole_tree
kind_tree Pixels = λ z. number (of_integer z)
kind_tree Text = string
kind_tree Truth = boolean

-- a member that must be there; that may be absent; that is this value where it is absent
abbrev pub required_member : (m : Member) → Members → Result (ValueOf m.kind) MapRefusal
required_member m ms = required (kind_at m.kind) (get_member m.name ms)

abbrev pub optional_member : (m : Member) → Members → Result (Option (ValueOf m.kind)) MapRefusal
optional_member m ms = optional (kind_at m.kind) (get_member m.name ms)

abbrev pub member_or : (m : Member) → ValueOf m.kind → Members → Result (ValueOf m.kind) MapRefusal
member_or m absent ms = absent_means absent (kind_at m.kind) (get_member m.name ms)

-- what is written of it: its name, and its value where there is one
abbrev pub own_value : (m : Member) → ValueOf m.kind → List ℕ × Option Data
own_value m x = (m.name, Some (kind_tree m.kind x))

abbrev pub own_some : (m : Member) → Option (ValueOf m.kind) → List ℕ × Option Data
own_some m x = (m.name, option_map (kind_tree m.kind) x)

-- Members of an object, taken out and put in.
use Rattle.std.specs.Prelude.{ℕ, List, [], ◌∷◌, Option, Some, None}
use Rattle.std.specs.Ordering.{nat_cmp, match_ordering}
use Rattle.std.specs.Cmp.Lexicographic.{slice_cmp}
use Rattle.serde_json.specs.Data.{Data, Members, no_members, member, put}

-- the members but those of this name
abbrev pub without : List ℕ → Members → Members
without k no_members = no_members
without k (member l d ms) = match_ordering (slice_cmp nat_cmp k l) (member l d (without k ms)) (without k ms) (member l d (without k ms))

-- the members but those of these names
abbrev pub without_all : List (List ℕ) → Members → Members
without_all [] ms = ms
without_all (k ∷ ks) ms = without_all ks (without k ms)

-- the members, with this one where there is a value
abbrev pub put_some : List ℕ → Option Data → Members → Members
put_some k None ms = ms
put_some k (Some d) ms = put k d ms

-- the members, with each of these put in
abbrev pub put_all : Members → Members → Members
put_all no_members ms = ms
put_all (member k d more) ms = put_all more (put k d ms)

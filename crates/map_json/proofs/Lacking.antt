-- Members that have none of some names.
use Rattle.std.proofs.Common.{◌≡◌, ℕ, List, [], ◌∷◌, None}
use Rattle.serde_json.specs.Data.{Members}
use Rattle.serde_json.specs.Find.{get_member}
use Rattle.map_model.specs.Lists.{Each}
use Rattle.json_members.specs.Members.{without, without_all}
use Rattle.json_members.proofs.MembersLemmas.{get_member-without, get_member-without_same, stays_absent}

-- no member has a name of these
abbrev pub LacksAll : List (List ℕ) → Members → Type 0
LacksAll ks ms = Each (λ k. get_member k ms ≡ None) ks

pub absent_from_all : (q : List ℕ) (ks : List (List ℕ)) (ms : Members) → get_member q ms ≡ None → get_member q (without_all ks ms) ≡ None
absent_from_all q [] ms h = h
absent_from_all q (k ∷ ks) ms h = absent_from_all q ks (without k ms) (stays_absent q k ms h)

pub LacksAll-without_all : (ks : List (List ℕ)) (ms : Members) → LacksAll ks (without_all ks ms)
LacksAll-without_all [] ms = tt
LacksAll-without_all (k ∷ ks) ms = (absent_from_all k ks (without k ms) (get_member-without_same k ms), LacksAll-without_all ks (without k ms))

pub ruleset takes = (get_member-without)

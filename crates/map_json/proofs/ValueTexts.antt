-- The texts of a `Value` are UTF-8, since they are strings.
use Rattle.std.proofs.Common.{IsUtf8, List, [], ◌∷◌, map, String, Global, sym, subst}
use Rattle.std.proofs.lemmas.Str.{IsUtf8-string_bytes}
use Rattle.serde_json.specs.Data.{Data, null, boolean, number, string, array, object, Items, no_items, item, Members, no_members, member}
use Rattle.serde_json.specs.View.{view, view_step, items_of, members_of}
use Rattle.serde_json.specs.declared.value.Value.{Value, map-Value}
use Rattle.serde_json.specs.declared.value.Value.TheOpen.{Value-F}
use Rattle.serde_json.specs.declared.value.Value.TheFolds.{fold-roll-Value, ind-Value}

-- each text and each name is UTF-8
abbrev mutual
  pub HasTexts : Data → Type 0
  HasTexts null = Unit {0}
  HasTexts (boolean b) = Unit {0}
  HasTexts (number x) = Unit {0}
  HasTexts (string s) = IsUtf8 s
  HasTexts (array ds) = ItemsHaveTexts ds
  HasTexts (object ms) = MembersHaveTexts ms

  pub ItemsHaveTexts : Items → Type 0
  ItemsHaveTexts no_items = Unit {0}
  ItemsHaveTexts (item d ds) = HasTexts d × ItemsHaveTexts ds

  pub MembersHaveTexts : Members → Type 0
  MembersHaveTexts no_members = Unit {0}
  MembersHaveTexts (member k d ms) = IsUtf8 k × HasTexts d × MembersHaveTexts ms

abbrev HasTextsSeen : Value → Type 0
HasTextsSeen v = HasTexts (view v)

-- a value, with its texts known
abbrev Known : Type 0
Known = (v : Value) × HasTextsSeen v

items-HaveTexts : (vs : List Known) → ItemsHaveTexts (items_of (map view (map (λ (e : Known). e.0) vs)))
items-HaveTexts [] = tt
items-HaveTexts (e ∷ vs) = (e.1, items-HaveTexts vs)

abbrev Entry : Type 0
Entry = String Global × Known

members-HaveTexts : (ms : List Entry) → MembersHaveTexts (members_of
    (map (λ (m : String Global × Value). (m.0, view m.1)) (map (λ (m : Entry). (m.0, m.1.0)) ms)))
members-HaveTexts [] = tt
members-HaveTexts (m ∷ ms) = (IsUtf8-string_bytes m.0, m.1.1, members-HaveTexts ms)

-- one tier, with each value inside known
tier-HasTexts : (y : Value-F Known) → HasTexts (view_step (map-Value Value Data view (map-Value Known Value (λ e. e.0) y)))
tier-HasTexts Value-F.Null = tt
tier-HasTexts (Value-F.Bool b) = tt
tier-HasTexts (Value-F.Number n) = tt
tier-HasTexts (Value-F.String s) = IsUtf8-string_bytes s
tier-HasTexts (Value-F.Array v) = items-HaveTexts v.items
tier-HasTexts (Value-F.Object m) = members-HaveTexts m.entries

pub HasTexts-view : (v : Value) → HasTextsSeen v
HasTexts-view = ind-Value HasTextsSeen (λ x y is.
    let own = subst (λ (z : Value-F Value). HasTexts (view_step (map-Value Value Data view z))) is (tier-HasTexts y) in
    subst HasTexts (sym (fold-roll-Value Data view_step x)) own)

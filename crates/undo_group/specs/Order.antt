-- Numbered entries in an order: which number stands at each place, and at which place each number stands.
use Rattle.std.specs.Prelude.{filter_map, slice_get, ◌≡◌, ℕ, ◌+◌, ◌-◌, ◌<◌, ◌≤◌, ◌==◌, List, length, slice_index, Option, Some, None, if◌then◌else◌}
use Rattle.std.specs.Option.{option_map}
use Rattle.undo_group.specs.declared.order.Order.{Order}

-- the numbers of the entries, in order
abbrev pub order_of : Order → List ℕ
order_of o = o.entries.items

-- each number of xs, at its place, is found at that number in ys
pub record IsFoundIn (xs ys : List ℕ) (n : ℕ) : Type 0 where
  pub within : (at : ℕ) → at < n → slice_index xs at < n
  pub back : (at : ℕ) → at < n → slice_index ys (slice_index xs at) ≡ at

-- the numbers below n stand in xs, and ps has the place of each
pub record ArePlaced (xs ps : List ℕ) (n : ℕ) : Type 0 where
  pub entries : length xs ≡ n
  pub places : length ps ≡ n
  pub placed : IsFoundIn xs ps n
  pub numbered : IsFoundIn ps xs n

-- n entries have an order
unfoldable pub IsOrder : Order → ℕ → Type 0
IsOrder o n = ArePlaced o.entries.items o.places.items n

-- all of them are below n
abbrev pub AreAmong : List ℕ → ℕ → Type 0
AreAmong ns n = (at : ℕ) → at < length ns → slice_index ns at < n

-- where the number x goes, once the last of the numbers becomes the number gone
abbrev pub number_after : ℕ → ℕ → ℕ → ℕ
number_after gone last x = if x == last then gone else x

-- so it is with the number of the active one, unless that is gone
abbrev pub number_left : ℕ → ℕ → Option ℕ → Option ℕ
number_left gone last None = None
number_left gone last (Some at) = if at == gone then None else Some (number_after gone last at)

-- the place of the active one
abbrev pub place_in : Order → Option ℕ → Option ℕ
place_in o active = option_map (slice_index o.places.items) active

-- the number at a place is taken out of the numbers in order, of which the last one is taken for it
pub record IsTakenFrom (old : List ℕ) (place gone : ℕ) (new : List ℕ) : Type 0 where
  pub one_less : length new + 1 ≡ length old
  pub before : (at : ℕ) → at < place → slice_index new at ≡ number_after gone (length old - 1) (slice_index old at)
  pub behind : (at : ℕ) → place ≤ at → at + 1 < length old → slice_index new at ≡ number_after gone (length old - 1) (slice_index old (at + 1))

-- what stands in xs at these numbers, in their order
abbrev pub in_order : {X : Type 0} → List X → List ℕ → List X
in_order xs ns = filter_map (slice_get xs) ns

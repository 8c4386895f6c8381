use Rattle.std.proofs.Common.{◌≡◌, ℕ, List, ◌+◌, ◌*◌, ◌≤◌, ◌++◌, length, take}
use Rattle.json.specs.Json.{items, members, value, parse_map}
use Rattle.serde_json.specs.Data.{no_members}
use Rattle.serde_json.specs.Read.{of_items, of_members, converted}
use Rattle.serde_json.specs.View.{members_view}
use Rattle.serde_json.proofs.Views.{Entry}
use Rattle.map_layout.proofs.Reading.{items_before}
use Rattle.map_layout.proofs.matching.+matches.Given as goal

abbrev pub decreases-comes : goal.decreases-comes
decreases-comes l = 2 * l.depth

abbrev pub decreases-items_come : goal.decreases-items_come
decreases-items_come l = 2 * l.depth + 1

abbrev pub decreases-members_come : goal.decreases-members_come
decreases-members_come l = 2 * l.depth + 1

abbrev pub invariant-items_come-loop-item : goal.invariant-items_come-loop-item
invariant-items_come-loop-item l =
    (n : ℕ) × (length l.reader ≤ n)
    × (converted of_items (items (value l.depth) (length l.initial.reader) l.initial.reader)
    ≡ parse_map (items_before (take l.item-index l.item-items)) (converted of_items (items (value l.depth) n l.reader)))
    × (length l.reader ≤ length l.initial.reader)

abbrev pub invariant-members_come-loop-key : goal.invariant-members_come-loop-key
invariant-members_come-loop-key l =
    (done : List Entry) × (l.wanted.entries ≡ done ++ l.key-iterator)
    × ((n : ℕ) × (length l.reader ≤ n)
    × (converted (λ ms. of_members ms no_members) (members (value l.depth) (length l.initial.reader) l.initial.reader)
    ≡ converted (λ ms. of_members ms (members_view done)) (members (value l.depth) n l.reader))
    × (length l.reader ≤ length l.initial.reader))

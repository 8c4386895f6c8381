use Rattle.std.proofs.Common.{◌≡◌, ◌-◌, ℕ, List, length, false, Some, is_some, sym, ◌∙◌, ap, subst, arith}
use Rattle.std.proofs.lemmas.Option.{gets, slice_get-map}
use Rattle.std.specs.Map.{lookup}
use Rattle.std.specs.Option.{option_map}
use Rattle.std.specs.Vec.{vec_len}
use Rattle.undo_stack.specs.Stacks.{Holds, history}
use Rattle.undo_group.specs.Order.{IsOrder, number_left}
use Rattle.undo_group.specs.Stacks.{IsTakenOut, group_of, stacks_of}
use Rattle.undo_group.specs.Groups.{removed}
use Rattle.undo_group.specs.declared.group.Group.{Group}
use Rattle.undo_group.proofs.Entries.{AreHeld-removed, group_of-removed, history_named-entries, taken_out}
use Rattle.undo_group.proofs.Lookups.{All-at, mapped_none}
use Rattle.undo_group.proofs.NamedStacks.{found_name, is_name}
use Rattle.undo_group.proofs.Shifting.{placed_of}
use Rattle.undo_group.proofs.group.Group.remove.Goals as goal

pub returns-in_default-clause-none : goal.returns-in_default-clause-none
returns-in_default-clause-none g c =
    let self = c.args.self.now in
    let absent : is_some (lookup (is_name c.args.name.now) self.stacks.entries) ≡ false = sym c.get_index_of.ensures.found ∙ ap is_some c.in_default.is in
    history_named-entries g.C.Command.change self c.requires c.args.name.now ∙ mapped_none (history g.C.Command.change) _ absent

pub unwrap-stack-requires : goal.unwrap-stack-requires
unwrap-stack-requires g c = grind (arith, gets)

pub returns-clause-sound : goal.returns-clause-sound
returns-clause-sound g c =
    let self = c.args.self.now in
    let n : ℕ = length self.stacks.entries in
    let at = sym c.swap_remove_index.ensures.entry ∙ c.unwrap-stack.ensures in
    let entries = rw c.unwrap-stack.ensures at c.swap_remove_index.ensures.entries in
    let count : vec_len self.order.entries ≡ n = omega (arith, (placed_of self.order n c.requires.order).entries) in
    let order : IsOrder c.remove.new.self (n - 1) = subst (λ (k : ℕ). IsOrder c.remove.new.self (k - 1)) count c.remove.ensures.order in
    let active : c.number_left-self.result ≡ number_left c.in-Some.at (n - 1) self.active =
    c.number_left-self.ensures ∙ ap (λ (k : ℕ). number_left c.in-Some.at (k - 1) self.active) c.len-last.ensures.len in
    AreHeld-removed g.C.Command.change self c.requires _ c.in-Some.at c.unwrap-stack.result c.unwrap-stack.result c.in-Some.ensures.within at entries
    c.swap_remove_index.ensures.unique order c.remove.ensures.taken active

pub returns-clause-held : goal.returns-clause-held
returns-clause-held g c =
    let at = sym c.swap_remove_index.ensures.entry ∙ c.unwrap-stack.ensures in
    All-at (λ e. Holds g.C.Command.change e.1) c.args.self.now.stacks.entries c.in-Some.at c.unwrap-stack.result at c.requires.stacks

pub returns-clause-stack : goal.returns-clause-stack
returns-clause-stack g c =
    let f = g.C.Command.change in
    let self = c.args.self.now in
    let at = sym c.swap_remove_index.ensures.entry ∙ c.unwrap-stack.ensures in
    let found : lookup (is_name c.args.name.now) self.stacks.entries ≡ Some c.unwrap-stack.result.1 = grind (arith, gets, slice_get-map) in
    history_named-entries f self c.requires c.args.name.now ∙ ap (option_map (history f)) found

pub returns-clause-removed : goal.returns-clause-removed
returns-clause-removed g c =
    let f = g.C.Command.change in
    let self = c.args.self.now in
    let n : ℕ = length self.stacks.entries in
    let e = c.unwrap-stack.result in
    let new : Group g.row.C.Denot = record { stacks = c.swap_remove_index.new.self; order = c.remove.new.self; active = c.number_left-self.result } in
    let at = sym c.swap_remove_index.ensures.entry ∙ c.unwrap-stack.ensures in
    let entries = rw c.unwrap-stack.ensures at c.swap_remove_index.ensures.entries in
    let count : vec_len self.order.entries ≡ n = omega (arith, (placed_of self.order n c.requires.order).entries) in
    let order : IsOrder c.remove.new.self (n - 1) = subst (λ (k : ℕ). IsOrder c.remove.new.self (k - 1)) count c.remove.ensures.order in
    let active : c.number_left-self.result ≡ number_left c.in-Some.at (n - 1) self.active =
    c.number_left-self.ensures ∙ ap (λ (k : ℕ). number_left c.in-Some.at (k - 1) self.active) c.len-last.ensures.len in
    let named = found_name c.args.name.now self.stacks.entries c.in-Some.at e (sym c.get_index_of.ensures.index ∙ c.in-Some.is) at in
    subst (λ (name : List ℕ). group_of f new ≡ removed name (group_of f self)) named (
    group_of-removed f self c.requires new c.in-Some.at e e c.in-Some.ensures.within at entries c.swap_remove_index.ensures.unique order c.remove.ensures.taken
    active
    )

pub returns-clause-taken : goal.returns-clause-taken
returns-clause-taken g c =
    let f = g.C.Command.change in
    let self = c.args.self.now in
    let n : ℕ = length self.stacks.entries in
    let e = c.unwrap-stack.result in
    let new : Group g.row.C.Denot = record { stacks = c.swap_remove_index.new.self; order = c.remove.new.self; active = c.number_left-self.result } in
    let at = sym c.swap_remove_index.ensures.entry ∙ c.unwrap-stack.ensures in
    let entries = rw c.unwrap-stack.ensures at c.swap_remove_index.ensures.entries in
    let count : vec_len self.order.entries ≡ n = omega (arith, (placed_of self.order n c.requires.order).entries) in
    let order : IsOrder c.remove.new.self (n - 1) = subst (λ (k : ℕ). IsOrder c.remove.new.self (k - 1)) count c.remove.ensures.order in
    let active : c.number_left-self.result ≡ number_left c.in-Some.at (n - 1) self.active =
    c.number_left-self.ensures ∙ ap (λ (k : ℕ). number_left c.in-Some.at (k - 1) self.active) c.len-last.ensures.len in
    let named = found_name c.args.name.now self.stacks.entries c.in-Some.at e (sym c.get_index_of.ensures.index ∙ c.in-Some.is) at in
    subst (λ (name : List ℕ). IsTakenOut name (stacks_of self) e.1 (stacks_of new)) named (
    taken_out f self c.requires new c.in-Some.at e e c.in-Some.ensures.within at entries c.swap_remove_index.ensures.unique order c.remove.ensures.taken active
    )

pub remove-requires : goal.remove-requires
remove-requires g c =
    let self = c.args.self.now in
    let placed = placed_of self.order (length self.stacks.entries) c.requires.order in
    let count : length self.stacks.entries ≡ vec_len self.order.entries = omega (arith, placed.entries) in
    record {
      order = subst (λ (k : ℕ). IsOrder self.order k) count c.requires.order;
      within = omega (arith, placed.entries, c.in-Some.ensures.within);
    }

use Rattle.std.proofs.Common.{◌≡◌, ◌+◌, ℕ, List, ◌++◌, [], ◌∷◌, length, false, true, is_some, refl, sym, ◌∙◌, ap, subst, arith}
use Rattle.std.specs.Map.{lookup}
use Rattle.std.specs.Vec.{vec_len}
use Rattle.undo_stack.specs.Stacks.{history}
use Rattle.undo_group.specs.Groups.{added}
use Rattle.undo_group.specs.Order.{IsOrder, order_of}
use Rattle.undo_group.specs.Stacks.{group_of, named as named_stack, stacks_of}
use Rattle.undo_group.specs.declared.group.Group.{Group}
use Rattle.undo_group.proofs.Entries.{AreHeld-added, group_of-added, history_named-entries, inserted_last, stacks_of-added}
use Rattle.undo_group.proofs.Lookups.{mapped_none, mapped_some}
use Rattle.undo_group.proofs.NamedStacks.{is_name}
use Rattle.undo_group.proofs.Shifting.{placed_of, same_order}
use Rattle.undo_group.proofs.group.Group.add.Goals as goal

pub returns-then-contains_key-clause-fault : goal.returns-then-contains_key-clause-fault
returns-then-contains_key-clause-fault g c =
    let f = g.C.Command.change in
    let self = c.args.self.now in
    let there : is_some (lookup (is_name c.args.name.now) self.stacks.entries) ≡ true = sym c.contains_key.ensures ∙ c.if-contains_key.true in
    rw (history_named-entries f self c.requires.sound c.args.name.now) (mapped_some (history f) _ there)

pub returns-in_default-clause-fault : goal.returns-in_default-clause-fault
returns-in_default-clause-fault g c =
    let f = g.C.Command.change in
    let self = c.args.self.now in
    let absent : is_some (lookup (is_name c.args.name.now) self.stacks.entries) ≡ false = sym c.contains_key.ensures ∙ c.if-contains_key.false in
    history_named-entries f self c.requires.sound c.args.name.now ∙ mapped_none (history f) _ absent

pub returns-then-is_err-clause-fault : goal.returns-then-is_err-clause-fault
returns-then-is_err-clause-fault g c =
    let f = g.C.Command.change in
    let self = c.args.self.now in
    let absent : is_some (lookup (is_name c.args.name.now) self.stacks.entries) ≡ false = sym c.contains_key.ensures ∙ c.if-contains_key.false in
    history_named-entries f self c.requires.sound c.args.name.now ∙ mapped_none (history f) _ absent

pub returns-then-is_err-clause-sound : goal.returns-then-is_err-clause-sound
returns-then-is_err-clause-sound g c =
    let old = c.args.self.now in
    record {
      stacks = c.requires.sound.stacks;
      distinct = c.requires.sound.distinct;
      order = same_order old.order c.reserve.new.self (length old.stacks.entries) c.reserve.ensures.entries c.reserve.ensures.places c.requires.sound.order;
      within = c.requires.sound.within;
    }

pub push_reserved-requires-clause-order : goal.push_reserved-requires-clause-order
push_reserved-requires-clause-order g c =
    let old = c.args.self.now in
    let placed = placed_of old.order (length old.stacks.entries) c.requires.sound.order in
    let count : length old.stacks.entries ≡ vec_len c.reserve.new.self.entries = omega (arith, placed.entries, ap length c.reserve.ensures.entries) in
    subst (λ (k : ℕ). IsOrder c.reserve.new.self k) count
    (same_order old.order c.reserve.new.self (length old.stacks.entries) c.reserve.ensures.entries c.reserve.ensures.places c.requires.sound.order)

pub returns-in-Ok-insert-clause-sound : goal.returns-in-Ok-insert-clause-sound
returns-in-Ok-insert-clause-sound g c =
    let f = g.C.Command.change in
    let old = c.args.self.now in
    let placed = placed_of old.order (length old.stacks.entries) c.requires.sound.order in
    let absent : is_some (lookup (is_name c.args.name.now) old.stacks.entries) ≡ false = sym c.contains_key.ensures ∙ c.if-contains_key.false in
    let named = c.in-Ok.ensures.ok in
    let new : Group g.row.C.Denot = record { stacks = c.insert.new.self; order = c.push_reserved.new.self; active = old.active } in
    let entries = inserted_last old c.args.name.now c.in-Ok.key c.args.stack c.insert.new.self.entries named absent c.in-Ok-insert.ensures.entries in
    let count : vec_len c.reserve.new.self.entries ≡ length old.stacks.entries = omega (arith, placed.entries, ap length c.reserve.ensures.entries) in
    let last : order_of new.order ≡ order_of old.order ++ length old.stacks.entries ∷ [] =
    c.push_reserved.ensures.last ∙ rw (c.reserve.ensures.entries, count) refl in
    let last_place : new.order.places.items ≡ old.order.places.items ++ length old.stacks.entries ∷ [] =
    c.push_reserved.ensures.places ∙ rw (c.reserve.ensures.places, count) refl in
    let order : IsOrder new.order (length old.stacks.entries + 1) = subst (λ (k : ℕ). IsOrder new.order (k + 1)) count c.push_reserved.ensures.order in
    AreHeld-added f old c.requires.sound new c.in-Ok.key c.args.stack entries last last_place refl c.requires.held c.in-Ok-insert.ensures.unique order

pub returns-in-Ok-insert-clause-new : goal.returns-in-Ok-insert-clause-new
returns-in-Ok-insert-clause-new g c =
    let f = g.C.Command.change in
    let old = c.args.self.now in
    let absent : is_some (lookup (is_name c.args.name.now) old.stacks.entries) ≡ false = sym c.contains_key.ensures ∙ c.if-contains_key.false in
    history_named-entries f old c.requires.sound c.args.name.now ∙ mapped_none (history f) _ absent

pub returns-in-Ok-insert-clause-added : goal.returns-in-Ok-insert-clause-added
returns-in-Ok-insert-clause-added g c =
    let f = g.C.Command.change in
    let old = c.args.self.now in
    let placed = placed_of old.order (length old.stacks.entries) c.requires.sound.order in
    let absent : is_some (lookup (is_name c.args.name.now) old.stacks.entries) ≡ false = sym c.contains_key.ensures ∙ c.if-contains_key.false in
    let named = c.in-Ok.ensures.ok in
    let new : Group g.row.C.Denot = record { stacks = c.insert.new.self; order = c.push_reserved.new.self; active = old.active } in
    let entries = inserted_last old c.args.name.now c.in-Ok.key c.args.stack c.insert.new.self.entries named absent c.in-Ok-insert.ensures.entries in
    let count : vec_len c.reserve.new.self.entries ≡ length old.stacks.entries = omega (arith, placed.entries, ap length c.reserve.ensures.entries) in
    let last : order_of new.order ≡ order_of old.order ++ length old.stacks.entries ∷ [] =
    c.push_reserved.ensures.last ∙ rw (c.reserve.ensures.entries, count) refl in
    let last_place : new.order.places.items ≡ old.order.places.items ++ length old.stacks.entries ∷ [] =
    c.push_reserved.ensures.places ∙ rw (c.reserve.ensures.places, count) refl in
    group_of-added f old c.requires.sound new c.in-Ok.key c.args.stack entries last last_place refl
    ∙ ap (λ (n : List ℕ). added n (history f c.args.stack) (group_of f old)) named

pub returns-in-Ok-insert-clause-last : goal.returns-in-Ok-insert-clause-last
returns-in-Ok-insert-clause-last g c =
    let f = g.C.Command.change in
    let old = c.args.self.now in
    let placed = placed_of old.order (length old.stacks.entries) c.requires.sound.order in
    let absent : is_some (lookup (is_name c.args.name.now) old.stacks.entries) ≡ false = sym c.contains_key.ensures ∙ c.if-contains_key.false in
    let named = c.in-Ok.ensures.ok in
    let new : Group g.row.C.Denot = record { stacks = c.insert.new.self; order = c.push_reserved.new.self; active = old.active } in
    let entries = inserted_last old c.args.name.now c.in-Ok.key c.args.stack c.insert.new.self.entries named absent c.in-Ok-insert.ensures.entries in
    let count : vec_len c.reserve.new.self.entries ≡ length old.stacks.entries = omega (arith, placed.entries, ap length c.reserve.ensures.entries) in
    let last : order_of new.order ≡ order_of old.order ++ length old.stacks.entries ∷ [] =
    c.push_reserved.ensures.last ∙ rw (c.reserve.ensures.entries, count) refl in
    let last_place : new.order.places.items ≡ old.order.places.items ++ length old.stacks.entries ∷ [] =
    c.push_reserved.ensures.places ∙ rw (c.reserve.ensures.places, count) refl in
    stacks_of-added f old c.requires.sound new c.in-Ok.key c.args.stack entries last last_place refl
    ∙ ap (λ (n : List ℕ). stacks_of old ++ named_stack n c.args.stack ∷ []) named

pub returns-clause-sound : goal.returns-clause-sound
returns-clause-sound g c =
    let old = c.args.self.now in
    let same = c.in-Err.ensures.err in
    record {
      stacks = rw same c.requires.sound.stacks;
      distinct = rw same c.requires.sound.distinct;
      order = rw same
          (same_order old.order c.reserve.new.self (length old.stacks.entries) c.reserve.ensures.entries c.reserve.ensures.places c.requires.sound.order);
      within = rw same c.requires.sound.within;
    }

pub returns-clause-fault : goal.returns-clause-fault
returns-clause-fault g c =
    let f = g.C.Command.change in
    let old = c.args.self.now in
    let absent : is_some (lookup (is_name c.args.name.now) old.stacks.entries) ≡ false = sym c.contains_key.ensures ∙ c.if-contains_key.false in
    history_named-entries f old c.requires.sound c.args.name.now ∙ mapped_none (history f) _ absent

pub returns-clause-unchanged : goal.returns-clause-unchanged
returns-clause-unchanged g c = rw (c.in-Err.ensures.err, c.reserve.ensures.entries, c.reserve.ensures.places) refl

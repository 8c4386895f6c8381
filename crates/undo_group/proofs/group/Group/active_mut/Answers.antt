use Rattle.std.proofs.Common.{refl, sym, ◌∙◌, ap, slice_get, arith}
use Rattle.std.proofs.lemmas.Option.{slice_get-map}
use Rattle.std.specs.Option.{option_map}
use Rattle.undo_stack.specs.Stacks.{Holds, history}
use Rattle.undo_group.specs.Order.{place_in}
use Rattle.undo_group.specs.Stacks.{documents_of, entries_of}
use Rattle.undo_group.proofs.Documents.{IsGroup-at}
use Rattle.undo_group.proofs.Entries.{IsLeft-set_value_at, active_history-number, distinct_documents, stack_at-active}
use Rattle.undo_group.proofs.Lookups.{IfSome-at, IfSome-mapped, option_map-map}
use Rattle.undo_group.proofs.group.Group.active_mut.Goals as goal

pub returns-in-Some : goal.returns-in-Some
returns-in-Some g c =
    let f = g.C.Command.change in
    let old = c.args.self.now in
    let stack = c.get_index_mut.ensures.value ∙ slice_get-map (λ e. e.1) old.stacks.entries c.in-Some.at in (
      (refl, λ w holds. IsLeft-set_value_at f old c.requires c.in-Some.at w c.in-Some.is holds, refl),
      record {
        lends = tt;
        active = sym (option_map-map (λ s. s.now) (history f) c.get_index_mut.result) ∙ ap (option_map (history f)) stack
            ∙ option_map-map (λ e. e.1) (history f) (slice_get old.stacks.entries c.in-Some.at)
            ∙ sym (active_history-number f old c.requires c.in-Some.at c.in-Some.is);
        stack = stack ∙ sym (stack_at-active f old c.requires c.in-Some.at c.in-Some.is);
        held = IfSome-mapped (λ s. s.now) (Holds f) c.get_index_mut.result
            (rw stack (IfSome-at (λ e. e.1) (Holds f) old.stacks.entries c.in-Some.at c.requires.stacks));
        whole = grind (arith, IsGroup-at (documents_of f (entries_of old)) (place_in old.order old.active) (distinct_documents f old c.requires));
      },
    )

pub returns-in-None : goal.returns-in-None
returns-in-None g c = (
  (refl, λ w holds. record { sound = c.requires; group = rw c.in-None.is refl; stacks = rw c.in-None.is refl }, refl),
  record { lends = tt; active = rw c.in-None.is; stack = rw c.in-None.is refl; held = tt; whole = tt },
)

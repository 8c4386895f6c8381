-- Where no step is that of a free command, a history and a call leave one history.
use Rattle.std.proofs.Common.{◌≡◌, Bool, true, false, Ok, Err, refl, sym, ◌∙◌, ap₂, subst}
use Rattle.std.specs.Prelude.{◌↔◌}
use Rattle.map_model.specs.Document.{DocumentParts}
use Rattle.command_api.specs.Names.{IsSettled, Vanishing, Never, WhenEqual, Free, is_free}
use Rattle.undo_stack.specs.History.{Step, History}
use Rattle.undo_stack.specs.Moving.{Answer, Leads}
use Rattle.undo_stack.specs.Pushing.{before_target, cut, next_of, target, vanishing_of, IsPushed, Merges, Vanishes}
use Rattle.session_run.proofs.Tame.{IsTame, cut-tame, target-bound}

-- whether a change is obsolete
settled-once : (v : Vanishing) (b c : Bool) (here there : DocumentParts) → is_free v ≡ false → IsSettled v b here there → IsSettled v c here there → b ≡ c
settled-once Never b c here there bound x y = x ∙ sym y
settled-once WhenEqual true true here there bound x y = refl
settled-once WhenEqual true false here there bound x y = sym (y.1 (x.0 refl))
settled-once WhenEqual false true here there bound x y = x.1 (y.0 refl)
settled-once WhenEqual false false here there bound x y = refl
settled-once Free b c here there bound x y = absurd cc

-- whether an edit merges
merged-once : (b c : Bool) (P : Type 0) → (b ≡ true ↔ P) → (c ≡ true ↔ P) → b ≡ c
merged-once true true P x y = refl
merged-once true false P x y = sym (y.1 (x.0 refl))
merged-once false true P x y = x.1 (y.0 refl)
merged-once false false P x y = refl

vanishes-once : (merged b c : Bool) (h : History) (s : Step) → IsTame h → is_free s.names.vanishing ≡ false → Vanishes merged b h s → Vanishes merged c h s
    → b ≡ c
vanishes-once true b c h s tame bound x y = settled-once (vanishing_of (target h)) b c (before_target h) s.after (target-bound h tame) x y
vanishes-once false b c h s tame bound x y = settled-once s.names.vanishing b c _ s.after bound x y

-- an edit that is pushed
pub pushed-once : (h : History) (s : Step) (n m : History) → IsTame h → is_free s.names.vanishing ≡ false → IsPushed h s n → IsPushed h s m → n ≡ m
pushed-once h s n m tame bound p q =
    let merged = merged-once p.merged q.merged (Merges (cut h) s) p.merged_where q.merged_where in
    let Gone : Bool → Type 0 = λ b. Vanishes b p.gone (cut h) s in
    let gone = vanishes-once q.merged p.gone q.gone (cut h) s (cut-tame h tame) bound (subst Gone merged p.gone_where) q.gone_where in
    p.next ∙ ap₂ (λ b c. next_of b c s (cut h)) merged gone ∙ sym q.next

-- a call that one answer leads to one history
pub leads-once : (answer : Answer) (h next n m : History) → Leads answer h next n → Leads answer h next m → n ≡ m
leads-once (Ok done) h next n m x y = x ∙ sym y
leads-once (Err fault) h next n m x y = x ∙ sym y

use Rattle.std.proofs.Common.{◌≡◌, true, false, Some, ap, refl}
use Rattle.std.specs.Str.{is_utf8}
use Rattle.std.proofs.lemmas.Bool.{false_from_ne_true}
use Rattle.std.proofs.lemmas.Str.{is_utf8-from_IsUtf8, IsUtf8-from_is_utf8}
use Rattle.session_run.proofs.strict.utf8_text.Goals as goal

pub returns-in-Ok : goal.returns-in-Ok
returns-in-Ok c =
    let utf8 : is_utf8 c.args.line.now ≡ true = is_utf8-from_IsUtf8 c.args.line.now c.in-Ok.ensures.cases.1 in
    rw utf8 (ap Some c.in-Ok.ensures.cases.0)

pub returns-in-Err : goal.returns-in-Err
returns-in-Err c =
    let not_utf8 : is_utf8 c.args.line.now ≡ false = false_from_ne_true (is_utf8 c.args.line.now)
    (λ t. c.in-Err.ensures.cases.0 (IsUtf8-from_is_utf8 c.args.line.now t)) in
    rw not_utf8 refl

use Rattle.std.proofs.Common.{◌≡◌, Some}
use Rattle.member_commands.proofs.Narrowed.{narrowed-makes}
use Rattle.member_commands.proofs.narrowing.narrowed.Goals as goal

pub returns-in-Set-Some : goal.returns-in-Set-Some
returns-in-Set-Some c = λ edit after makes.
    let s = c.args.command in
    let told = rw (c.in-Set-Some.is-0, c.in-Set-Some.is-1) at c.edited_value-value.ensures.value in
    narrowed-makes s.id c.in-Set-Some.name s.follows s.is_same s.is_made c.in-Some.head c.in-Set-Some.value c.args.document.now edit after told.0 told.1
    (rw (c.in-Set-Some.is-0, c.in-Some.is) at makes)

use Rattle.std.proofs.Common.{◌≡◌, ◌+◌, ◌-◌, ◌≤◌, ◌<◌, ◌⊎◌, max, min, ◌∷◌, [], List, length, refl, sym, ap, ◌∙◌, subst, arith}
use Rattle.region.specs.declared.runs.Run.{Run}
use Rattle.region.specs.Walks.{AreSplitAt}
use Rattle.region.proofs.NextRuns.{HasNone-nothing, HasNone-other, IsNextRun-cut, parted}
use Rattle.region.proofs.next.next_in.Goals as goal

nothing : (rs : List Run) → length rs ≡ 0 → rs ≡ []
nothing [] e = refl
nothing (r ∷ rs) e = absurd (omega arith)

first_stored : (rest behind : List Run) (stored run : Run) → rest ≡ stored ∷ behind → run ≡ stored → rest ≡ run ∷ behind
first_stored rest behind stored run is same = is ∙ ap (λ s. s ∷ behind) (sym same)

pub returns-in_default-clause-none : goal.returns-in_default-clause-none
returns-in_default-clause-none c =
    let prefix = c.split_ended.result.0.now in
    HasNone-nothing c.args.runs.now prefix c.args.y c.args.from c.args.end
    (subst (AreSplitAt (c.args.from, c.args.y) c.args.runs.now prefix) (nothing c.split_ended.result.1.now c.in_default.ensures.cases) c.split_ended.ensures)

pub end-requires : goal.end-requires
end-requires c = (parted c.requires c.split_ended.ensures (first_stored c.split_ended.result.1.now c.in-Some.field-0-1.now c.in-Some.stored.now c.run-run.result
    c.in-Some.ensures.cases.0 c.run-run.ensures.run)).0.0

pub returns-then-run-y-clause-none : goal.returns-then-run-y-clause-none
returns-then-run-y-clause-none c =
    let r = c.run-run.result in
    let split_is = parted c.requires c.split_ended.ensures (first_stored c.split_ended.result.1.now c.in-Some.field-0-1.now c.in-Some.stored.now
    c.run-run.result c.in-Some.ensures.cases.0 c.run-run.ensures.run) in
    let short : (r.y ≡ c.args.y → ⊥) ⊎ ((r.y ≡ c.args.y) × (min (r.x + r.len) c.args.end ≤ max r.x c.args.from)) =
    rw (← c.end.ensures, ← c.min-end.ensures, ← c.max-start.ensures) c.then-run-y.either in
    HasNone-other c.args.runs.now c.split_ended.result.0.now c.in-Some.field-0-1.now r c.args.y c.args.from split_is.0 split_is.1 c.args.end short

pub returns-clause-some : goal.returns-clause-some
returns-clause-some c =
    let r = c.run-run.result in
    let split_is = parted c.requires c.split_ended.ensures (first_stored c.split_ended.result.1.now c.in-Some.field-0-1.now c.in-Some.stored.now
    c.run-run.result c.in-Some.ensures.cases.0 c.run-run.ensures.run) in
    let some : max r.x c.args.from < min (r.x + r.len) c.args.end = rw (← c.end.ensures, ← c.min-end.ensures, ← c.max-start.ensures) c.if-end-start.false in
    IsNextRun-cut c.args.runs.now c.split_ended.result.0.now c.in-Some.field-0-1.now r c.args.y c.args.from split_is.0 split_is.1 c.args.end c.if-run-y.false
    some
    (record { y = c.args.y; x = c.max-start.result; len = c.min-end.result - c.max-start.result }) refl c.max-start.ensures
    (omega (arith, c.end.ensures, c.min-end.ensures, c.max-start.ensures))

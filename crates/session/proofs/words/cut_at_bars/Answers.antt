use Rattle.std.proofs.Common.{List, ℕ, Option, sym, ap}
use Rattle.session.proofs.Bars.{cut_at_bars_found, cut_at_bars_none}
use Rattle.session.proofs.words.cut_at_bars.Goals as goal

pub returns-in-Some-clause-prefix : goal.returns-in-Some-clause-prefix
returns-in-Some-clause-prefix c = ap (λ (x : List ℕ × Option (List ℕ)). x.0)
    (sym (cut_at_bars_found c.args.text.now c.in-Some.prefix c.in-Some.behind c.in-Some.ensures.cases))

pub returns-in-Some-clause-behind : goal.returns-in-Some-clause-behind
returns-in-Some-clause-behind c = ap (λ (x : List ℕ × Option (List ℕ)). x.1)
    (sym (cut_at_bars_found c.args.text.now c.in-Some.prefix c.in-Some.behind c.in-Some.ensures.cases))

pub returns-in-None-clause-prefix : goal.returns-in-None-clause-prefix
returns-in-None-clause-prefix c = ap (λ (x : List ℕ × Option (List ℕ)). x.0) (sym (cut_at_bars_none c.args.text.now c.in-None.ensures.cases))

pub returns-in-None-clause-behind : goal.returns-in-None-clause-behind
returns-in-None-clause-behind c = ap (λ (x : List ℕ × Option (List ℕ)). x.1) (sym (cut_at_bars_none c.args.text.now c.in-None.ensures.cases))

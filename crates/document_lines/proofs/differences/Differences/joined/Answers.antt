use Rattle.std.proofs.Common.{◌≡◌, false}
use Rattle.document_lines.proofs.Joining.{joined-within}
use Rattle.document_lines.proofs.differences.Differences.joined.Goals as goal
use Rattle.document_lines.proofs.differences.Differences.joined.Goals.{then-self, else-self, then-self-2, else-self-2}

pub returns : goal.returns
returns c =
    let outline : c.if-self.result ≡ false → (c.args.self.outline ≡ false) × (c.args.other.outline ≡ false) =
    elim c.if-self.branch [ then-self w ↦ λ not. absurd (let worse : ⊥ = cc in worse) | else-self w ↦ λ not. ((cc), (cc)) ] in
    let selection : c.if-self-2.result ≡ false → (c.args.self.selection ≡ false) × (c.args.other.selection ≡ false) =
    elim c.if-self-2.branch [ then-self-2 w ↦ λ not. absurd (let worse : ⊥ = cc in worse) | else-self-2 w ↦ λ not. ((cc), (cc)) ] in
    joined-within c.args.self c.args.other (record { outline = c.if-self.result; selection = c.if-self-2.result; cells = c.joined.result }) outline selection
    c.joined.ensures.one c.joined.ensures.other

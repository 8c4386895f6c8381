use Rattle.map_json.proofs.MovedTrees.{said_readable, said_shallow, said_whole}
use Rattle.map_json.proofs.given.layer_tree.Goals as goal

pub returns-clause-readable : goal.returns-clause-readable
returns-clause-readable c =
    rw c.in_ok-tree.ensures (
    said_readable c.args.fractions c.args.map.now c.args.text.now c.in_ok-value.value c.in_ok-value.ensures.value c.in_ok-value.ensures.word
    )

pub returns-clause-whole : goal.returns-clause-whole
returns-clause-whole c =
    rw c.in_ok-tree.ensures (
    said_whole c.args.fractions c.args.map.now c.args.text.now c.in_ok-value.value c.in_ok-value.ensures.value c.in_ok-value.ensures.word
    )

pub returns-clause-shallow : goal.returns-clause-shallow
returns-clause-shallow c =
    rw c.in_ok-tree.ensures (
    said_shallow c.args.fractions c.args.map.now c.args.text.now c.in_ok-value.value c.in_ok-value.ensures.value c.in_ok-value.ensures.word
    )

use Rattle.std.proofs.Common.{refl}
use Rattle.map_json.proofs.writing.put_plain.Goals as goal

pub returns : goal.returns
returns c =
    rw (
      c.in_ok-put-7.ensures,
      c.from-7.ensures,
      c.in_ok-put-6.ensures,
      c.from-6.ensures,
      c.in_ok-put-5.ensures,
      c.from-5.ensures,
      c.in_ok-put-4.ensures,
      c.from-4.ensures,
      c.in_ok-put-3.ensures,
      c.from-3.ensures,
      c.in_ok-put-2.ensures,
      c.from-2.ensures,
      c.in_ok-put.ensures,
      c.from.ensures,
    ) refl

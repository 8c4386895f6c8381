use Rattle.std.proofs.Common.{◌≡◌, ◌∷◌, [], take, sym, ap, ◌∙◌, arith}
use Rattle.std.proofs.lemmas.List.{take_more}
use Rattle.edits.proofs.InPlace.{put_back, put_front}
use Rattle.edits.proofs.in_place.put_new.Goals as goal

pub returns-then-len-le-SHORT-clause-front : goal.returns-then-len-le-SHORT-clause-front
returns-then-len-le-SHORT-clause-front c =
    let xs = c.args.cells.now.items in
    let n = c.index-newer-0.result in
    let same : c.args.front ≡ c.args.back = omega arith in
    let first : take 1 c.args.newer.now ≡ n ∷ [] = take_more c.args.newer.now 0 n c.requires.some ∙ ap (λ m. m ∷ []) (sym c.index-newer-0.is) in
    rw (same, c.insert_reserved.ensures.items, first) (put_front xs n c.args.back (omega arith))

pub returns-then-len-le-SHORT-clause-back : goal.returns-then-len-le-SHORT-clause-back
returns-then-len-le-SHORT-clause-back c =
    rw c.insert_reserved.ensures.items (put_back c.args.cells.now.items c.index-newer-0.result c.args.back (omega arith))

use Rattle.std.proofs.Common.{rules, ◌<◌, length, Some, Ok, inr, refl}
use Rattle.tiled_maps.specs.declared.text.TheConstants.{LONGEST}
use Rattle.tiled_files.specs.Opening.{Opens}
use Rattle.tiled_store.proofs.tiled_store.TiledStore.set_aside_of.Goals as goal
use Rattle.tiled_store.proofs.tiled_store.TiledStore.set_aside_of.Goals.{then-not-self-via-then-not-self, then-not-self-via-else-not-self+then-stays}

-- the text surely stays as it is
pub returns-then-not-self-clause-gives : goal.returns-then-not-self-clause-gives
returns-then-not-self-clause-gives g c sets =
    elim c.then-not-self.branch [
      | then-not-self-via-then-not-self w ↦ search rules
      | then-not-self-via-else-not-self+then-stays w ↦ w.if-stays.ensures refl
    ]

-- the text would be too long
pub returns-in-Ok-Some-clause-refused : goal.returns-in-Ok-Some-clause-refused
returns-in-Ok-Some-clause-refused g c refused =
    let text = c.in-Ok-Some.text in
    let own : Opens c.args.bytes.now (Ok (Some text)) = search rules in
    let long : LONGEST < length text.items = search rules in
    inr (text, own, long)

use Rattle.std.proofs.Common.{rules, ◌≡◌, ◌⊎◌, inl, inr, ℕ, List, false, Ok, Err, None, refl, sym, subst}
use Rattle.tiled_maps.specs.declared.fault.Fault.TheVariants.{NotJson}
use Rattle.tiled_maps.specs.Texts.{SetsAside}
use Rattle.tiled_maps.proofs.LookAnswers.{SetsAside-nothing}
use Rattle.tiled_files.specs.Kinds.{is_xml}
use Rattle.tiled_files.specs.Opening.{OpensBy}
use Rattle.tiled_files.specs.declared.fault.FileFault.TheVariants.{Aside}
use Rattle.tiled_store.specs.Stored.{GivesFor}
use Rattle.tiled_store.proofs.tiled_store.stays.Goals as goal

gives : (bytes : List ℕ) → is_xml bytes ≡ false → SetsAside bytes (Ok None) ⊎ SetsAside bytes (Err NotJson) → GivesFor bytes bytes
gives bytes plain (inl s) = inl (None, refl, subst (λ xml. OpensBy xml bytes (Ok None)) (sym plain) s, tt)
gives bytes plain (inr n) = inr (refl, subst (λ xml. OpensBy xml bytes (Err (Aside NotJson))) (sym plain) n)

pub returns : goal.returns
returns c e =
    let plain : is_xml c.args.bytes.now ≡ false = search rules in
    gives c.args.bytes.now plain (SetsAside-nothing c.args.bytes.now (c.needs_nothing.ensures e))

-- What is put back by a source.
use Rattle.std.proofs.Common.{◌≡◌, inr, ℕ, List, [], Bool, false, true≢false, Option, Some, None, option_map, Result, Ok, Err, refl, sym, ap, subst, ◌∙◌}
use Rattle.serde_json.specs.Data.{Data}
use Rattle.serde_json.specs.View.{view}
use Rattle.serde_json.specs.declared.value.Value.{Value}
use Rattle.map_layout.specs.Laid.{ReadsTree}
use Rattle.map_layout.specs.declared.text.LaidText.{LaidText}
use Rattle.tiled_files.specs.Faults.{is_memory}
use Rattle.tiled_files.specs.Kinds.{is_xml}
use Rattle.tiled_files.specs.Opening.{HasJson}
use Rattle.tiled_files.specs.Saving.{IsSourceIn, IsTreeIn, PutsBy, PutsTree, PutsTreeBy, SavesJson}
use Rattle.tiled_files.specs.declared.fault.FileFault.{FileFault}
use Rattle.tiled_files.specs.declared.fault.FileFault.TheVariants.{Aside, Xml}

pub puts_by : (xml : Bool) (bytes source json : List ℕ) (saved : Result LaidText FileFault) → IsSourceIn xml source json
    → SavesJson bytes json saved → PutsBy xml bytes source saved
puts_by xml bytes source json (Ok laid) is saves = (json, is, saves)
puts_by xml bytes source json (Err (Aside fault)) is saves = (json, is, saves)
puts_by xml bytes source json (Err (Xml fault)) is saves = absurd saves

-- a source in XML that is no map has no JSON
pub no_source : (source : List ℕ) (fault : FileFault) → is_memory fault ≡ false → HasJson source (Err fault) → IsSourceIn (is_xml source) source []
no_source source (Aside fault) other has = absurd has
no_source source (Xml fault) other has =
    subst (λ xml. IsSourceIn xml source []) (sym has.0)
    (inr (has.1 (λ memory. true≢false (sym (ap (λ f. is_memory (Xml f)) memory) ∙ other)), refl))

pub puts_tree : (xml : Bool) (bytes source : List ℕ) (s : Option Data) (put : Result Value FileFault) → IsTreeIn xml source s → PutsTreeBy bytes s put
    → PutsTree xml bytes source put
puts_tree xml bytes source s (Ok map) is puts = (s, is, puts)
puts_tree xml bytes source s (Err (Aside fault)) is puts = (s, is, puts)
puts_tree xml bytes source s (Err (Xml fault)) is puts = absurd puts

pub reads_in : (source : List ℕ) (tree : Option Value) → ReadsTree source tree → IsTreeIn false source (option_map view tree)
reads_in source (Some value) reads = reads.0
reads_in source None reads = reads

-- What is put back by the tree of a source.
use Rattle.std.proofs.Common.{◌≡◌, ℕ, List, Option, Result, Ok, Err, subst}
use Rattle.std.specs.Prelude.{◌<◌}
use Rattle.serde_json.specs.Data.{Data, depth}
use Rattle.serde_json.specs.Read.{max_depth}
use Rattle.serde_json.specs.View.{view}
use Rattle.serde_json.specs.declared.value.Value.{Value}
use Rattle.json_trees.specs.Texts.{IsTreeOf}
use Rattle.tiled_maps.specs.declared.fault.Fault.{Fault}
use Rattle.tiled_maps.specs.declared.fault.Fault.TheVariants.{Memory, NotJson, NameTaken, TooManyFractions, TooDeep, BadChunk, Overlap, TooLarge, Unlike}
use Rattle.tiled_maps.specs.Packing.{IsPackedAs, IsKept}
use Rattle.tiled_maps.specs.Likeness.{IsSource, IsPutBackBy, PutsBackBy, PutsBackLike, PutsLike}
use Rattle.tiled_maps.specs.Alike.{as_in}
use Rattle.tiled_maps.specs.Trees.{put_back_of}

pub put_by : (bytes : List ℕ) (d e : Data) (s : Option Data) (value : Value) → IsTreeOf bytes d → e ≡ put_back_of d → PutsLike s e (Ok value)
    → IsPutBackBy bytes d s (view value)
put_by bytes d e s value tree is h = record {
  tree = tree;
  packed = subst (λ e. IsPackedAs s (as_in s e) (view value)) is h.0;
  kept = subst (λ e. IsKept s (as_in s e) (view value)) is h.1;
}

pub fault_by : (bytes : List ℕ) (d e : Data) (s : Option Data) (fault : Fault) → IsTreeOf bytes d → e ≡ put_back_of d → PutsLike s e (Err fault)
    → PutsBackBy bytes s (Err fault)
fault_by bytes d e s Memory tree is h = tt
fault_by bytes d e s NotJson tree is h = absurd h
fault_by bytes d e s NameTaken tree is h = absurd h
fault_by bytes d e s TooManyFractions tree is h = absurd h
fault_by bytes d e s TooDeep tree is h = (d, tree, subst (λ e. max_depth < depth (as_in s e)) is h)
fault_by bytes d e s BadChunk tree is h = absurd h
fault_by bytes d e s Overlap tree is h = absurd h
fault_by bytes d e s TooLarge tree is h = absurd h
fault_by bytes d e s Unlike tree is h = absurd h

pub answer_by : (bytes : List ℕ) (d e : Data) (s : Option Data) (r : Result Value Fault) → IsTreeOf bytes d → e ≡ put_back_of d → PutsLike s e r
    → PutsBackBy bytes s r
answer_by bytes d e s (Ok value) tree is h = (d, put_by bytes d e s value tree is h)
answer_by bytes d e s (Err fault) tree is h = fault_by bytes d e s fault tree is h

-- the same by the text of a source
pub fault_like : (bytes source : List ℕ) (s : Option Data) (fault : Fault) → IsSource source s → PutsBackBy bytes s (Err fault)
    → PutsBackLike bytes source (Err fault)
fault_like bytes source s Memory is h = tt
fault_like bytes source s NotJson is h = h
fault_like bytes source s NameTaken is h = h
fault_like bytes source s TooManyFractions is h = h
fault_like bytes source s TooDeep is (d, tree, deep) = (d, s, tree, is, deep)
fault_like bytes source s BadChunk is h = h
fault_like bytes source s Overlap is h = h
fault_like bytes source s TooLarge is h = h
fault_like bytes source s Unlike is h = h

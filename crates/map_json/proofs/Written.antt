-- Layers that a map has, with those that stand in them: the first, the rest, and those in one.
use Rattle.std.proofs.Common.{◌≡◌, ℕ, suc, List, [], ◌∷◌, Some, None, subst, arith}
use Rattle.serde_json.specs.Find.{get_member}
use Rattle.map_model.specs.declared.parts.Body.{Body}
use Rattle.map_model.specs.declared.parts.Body.TheVariants.{Tiles}
use Rattle.map_model.specs.declared.parts.Encoding.TheVariants.{Array}
use Rattle.map_model.specs.declared.parts.Layer.{Layer}
use Rattle.map_model.specs.Groups.{drawn, inside, tree}
use Rattle.map_model.specs.Keeping.{inner_tier}
use Rattle.map_model.specs.Format.{layer_names}
use Rattle.map_model.specs.Lists.{Each}
use Rattle.map_model.specs.WellFormed.{IsBody, IsDrawn, IsTileValue}
use Rattle.map_model.proofs.GroupBodies.{IsLayer-without}
use Rattle.map_json.specs.declared.detail.Detail.{Detail}
use Rattle.map_json.specs.declared.detail.Detail.TheVariants.{Whole, Outline}
use Rattle.map_json.specs.Appending.{AreWritten}
use Rattle.map_json.specs.Details.{numbers_in, numbers_of}
use Rattle.map_values.proofs.Lists.{Each-both, Each-left, Each-right}
use Rattle.map_json.proofs.DrawnLayers.{tree-Each}
use Rattle.map_json.proofs.Plain.{own_IsLayer}

pub AreWritten-first : (groups size : ℕ) (l : Layer) (ls : List Layer) → AreWritten groups size (l ∷ ls) → AreWritten groups size (l ∷ [])
AreWritten-first groups size l ls h = record {
  tier = h.tier;
  high = h.high;
  balance = h.balance;
  each = Each-both (IsDrawn size) (tree groups h.tier l) [] (Each-left (IsDrawn size) (tree groups h.tier l) (drawn groups h.tier ls) h.each) tt;
}

pub AreWritten-rest : (groups size : ℕ) (l : Layer) (ls : List Layer) → AreWritten groups size (l ∷ ls) → AreWritten groups size ls
AreWritten-rest groups size l ls h = record {
  tier = h.tier;
  high = h.high;
  balance = h.balance;
  each = Each-right (IsDrawn size) (tree groups h.tier l) (drawn groups h.tier ls) h.each;
}

pub AreWritten-inside : (groups less size : ℕ) (l : Layer) (ks : List Layer) → groups ≡ suc less → inside l ≡ ks → AreWritten groups size (l ∷ [])
    → AreWritten less size ks
AreWritten-inside groups less size l ks more are h =
    let all : AreWritten (suc less) size (l ∷ []) = subst (λ n. AreWritten n size (l ∷ [])) more h in
    let own = tree-Each (IsDrawn size) (suc less) all.tier l (Each-left (IsDrawn size) (tree (suc less) all.tier l) [] all.each) in
    subst (AreWritten less size) are (record
    { tier = inner_tier all.tier; high = omega (arith, all.high); balance = omega (arith, all.balance); each = own.1 })

-- a layer keeps no member of its own names
pub AreWritten-lacks : (groups size : ℕ) (l : Layer) → AreWritten groups size (l ∷ []) → Each (λ name. get_member name l.kept ≡ None) (layer_names l.body)
AreWritten-lacks groups size l h =
    (IsLayer-without (λ ls. []) h.tier size l (tree-Each (IsDrawn size) groups h.tier l
    (Each-left (IsDrawn size) (tree groups h.tier l) [] h.each)).0).kept.unread

-- its values are tile values
values_in : (tier size : ℕ) (b : Body) (ns : List ℕ) → numbers_of b ≡ Some ns → IsBody tier size b → Each IsTileValue ns
values_in tier size (Tiles Array cells) ns is h = let same : cells ≡ ns = cc in subst (Each IsTileValue) same h.1
values_in tier size b ns is h = cc

numbers_in-whole : (detail : Detail) (b : Body) (ns : List ℕ) → numbers_in detail b ≡ Some ns → numbers_of b ≡ Some ns
numbers_in-whole Whole b ns is = is
numbers_in-whole Outline b ns is = cc

pub AreWritten-values : (detail : Detail) (groups size : ℕ) (l : Layer) (ns : List ℕ) → numbers_in detail l.body ≡ Some ns → AreWritten groups size (l ∷ [])
    → Each IsTileValue ns
AreWritten-values detail groups size l ns is h =
    values_in h.tier size l.body ns (numbers_in-whole detail l.body ns is)
    (own_IsLayer groups h.tier size l (Each-left (IsDrawn size) (tree groups h.tier l) [] h.each)).body

-- What a store in memory holds.
use Rattle.std.proofs.Common.{◌≡◌, ℕ, Bool, true, false, cond, ◌&&◌, T, List, [], ◌∷◌, map, length, Option, Some, None, refl, sym, ap, subst, ◌∙◌, Ordering}
use Rattle.std.proofs.Common.{Less, is_lt, btree_map_len}
use Rattle.std.specs.Prelude.{is_some}
use Rattle.std.specs.List.{AllByRecursion}
use Rattle.std.specs.List.Sorted.{IsStrictlySortedBy}
use Rattle.std.specs.FinMap.Entries.{below_all, is_sorted}
use Rattle.std.specs.Map.{keys_of}
use Rattle.std.specs.Map.Iter.{TakesFirst, deref}
use Rattle.std.proofs.lemmas.Iterator.{YieldsList}
use Rattle.std.proofs.lemmas.Iterator.Consumers.{YieldsList-from_shown}
use Rattle.std.proofs.lemmas.List.{length-map}
use Rattle.std.specs.Option.{option_map}
use Rattle.std.specs.Map.{lookup}
use Rattle.std.specs.Ordering.{nat_cmp, eq_by_cmp}
use Rattle.std.specs.Cmp.{eq_by_cmp_equiv}
use Rattle.std.specs.Cmp.Lexicographic.{slice_cmp}
use Rattle.std.specs.Prelude.{String}
use Rattle.std.specs.String.{string_bytes, string_cmp}
use Rattle.std.specs.Str.{bytes_eq}
use Rattle.std.specs.Prelude.{Vec}
use Rattle.std.specs.Global.{Global}
use Rattle.std.specs.BTreeMap as tree
use Rattle.std.specs.BTreeMap.{BTreeMap, is_at, get_by_text, IsOrdered, UpdatesBy}
use Rattle.std.specs.FinMap.{find, get, insert, remove, keys, len, contains_key, entries, get-from_entries, get-from_sorted, get-insert, get-remove}
use Rattle.std.specs.FinMap.{len-entries, entries-from_sorted, same_map}
use Rattle.std.proofs.lemmas.Cmp.{nat_list_cmp_total}
use Rattle.std.proofs.lemmas.Map.Lookups.{exact_bytes}
use Rattle.std.proofs.lemmas.Map.Text.{btree_map_updates_text, is_eq-slice_cmp}
use Rattle.map_store.specs.Stored.{files_of}

find_mapped : (es : List (String Global × Vec ℕ Global)) (q : List ℕ)
    → find (slice_cmp nat_cmp) q (map (λ (e : String Global × Vec ℕ Global). (string_bytes e.0, e.1.items)) es)
    ≡ option_map (λ (v : Vec ℕ Global). v.items) (lookup (is_at (λ k. slice_cmp nat_cmp q (string_bytes k))) es)
find_mapped [] q = refl
find_mapped (e ∷ es) q =
    elim (is_at (slice_cmp nat_cmp q) (string_bytes e.0)) as
    (λ b. cond b (Some e.1.items) (find (slice_cmp nat_cmp) q (map (λ (x : String Global × Vec ℕ Global). (string_bytes x.0, x.1.items)) es))
    ≡ option_map (λ (v : Vec ℕ Global). v.items) (cond b (Some e.1) (lookup (is_at (λ k. slice_cmp nat_cmp q (string_bytes k))) es)))
    [ true ↦ refl | false ↦ find_mapped es q ]

pub get_stored : (m : BTreeMap (String Global) (Vec ℕ Global)) (q : List ℕ) → get (files_of m) q ≡ option_map (λ (v : Vec ℕ Global). v.items) (get_by_text m q)
get_stored m q = get-from_entries nat_list_cmp_total _ q ∙ find_mapped m.entries q

mapped_cond : (b : Bool) (v : Vec ℕ Global) (o : Option (Vec ℕ Global))
    → option_map (λ (x : Vec ℕ Global). x.items) (cond b (Some v) o) ≡ cond b (Some v.items) (option_map (λ (x : Vec ℕ Global). x.items) o)
mapped_cond true v o = refl
mapped_cond false v o = refl

pub stored_more : (bs : List ℕ) (m n : BTreeMap (String Global) (Vec ℕ Global)) (v : Vec ℕ Global)
    → UpdatesBy string_cmp (λ k. slice_cmp nat_cmp bs (string_bytes k)) m n (Some v) → files_of n ≡ insert (files_of m) bs v.items
stored_more bs m n v u = same_map nat_list_cmp_total exact_bytes _ _ (λ q.
    get_stored n q ∙ ap (option_map (λ (x : Vec ℕ Global). x.items)) (btree_map_updates_text bs m n (Some v) u q)
    ∙ mapped_cond (bytes_eq bs q) v (get_by_text m q)
    ∙ ap (λ b. cond b (Some v.items) (option_map (λ (x : Vec ℕ Global). x.items) (get_by_text m q)))
    (sym (is_eq-slice_cmp bs q) ∙ (eq_by_cmp_equiv nat_list_cmp_total).symm bs q)
    ∙ ap (λ o. cond (eq_by_cmp (slice_cmp nat_cmp) q bs) (Some v.items) o) (sym (get_stored m q))
    ∙ sym (get-insert nat_list_cmp_total (files_of m) bs v.items q))

-- ---- the pairs as they stand
abbrev named : String Global × Vec ℕ Global → List ℕ × List ℕ
named e = (string_bytes e.0, e.1.items)

both : (a b : Bool) → T a → T b → T (a && b)
both true b p q = q
both false b p q = p

below : (x : String Global) (es : List (String Global × Vec ℕ Global)) → AllByRecursion (λ y. string_cmp x y ≡ Less) (keys_of es)
    → T (below_all (slice_cmp nat_cmp) (string_bytes x) (map named es))
below x [] h = tt
below x (e ∷ es) h = both _ _ (subst (λ (r : Ordering). T (is_lt r)) (sym h.0) tt) (below x es h.1)

sorted_names : (es : List (String Global × Vec ℕ Global)) → IsStrictlySortedBy string_cmp (keys_of es) → T (is_sorted (slice_cmp nat_cmp) (map named es))
unfolding IsStrictlySortedBy
sorted_names [] h = tt
sorted_names (e ∷ es) h = both _ _ (below e.0 es h.0) (sorted_names es h.1)

-- the keys rise, so the files are the pairs as they stand
pub stored_pairs : (m : BTreeMap (String Global) (Vec ℕ Global)) → IsOrdered string_cmp m → entries (files_of m) ≡ map named m.entries
stored_pairs m h =
    let es : List (List ℕ × List ℕ) = map named m.entries in
    let s = sorted_names m.entries h in
    ap entries (same_map nat_list_cmp_total exact_bytes _ _ (λ q. get-from_entries nat_list_cmp_total es q ∙ sym (get-from_sorted (slice_cmp nat_cmp) es q s)))
    ∙ entries-from_sorted (slice_cmp nat_cmp) es s

pub stored_count : (m : BTreeMap (String Global) (Vec ℕ Global)) → IsOrdered string_cmp m → len (files_of m) ≡ btree_map_len m
stored_count m h = len-entries (files_of m) ∙ ap length (stored_pairs m h) ∙ length-map m.entries named

names_stored : (es : List (String Global × Vec ℕ Global)) → map (λ (e : List ℕ × List ℕ). e.0) (map named es) ≡ map string_bytes (keys_of es)
names_stored [] = refl
names_stored (e ∷ es) = ap (λ ns. string_bytes e.0 ∷ ns) (names_stored es)

pub stored_names : (m : BTreeMap (String Global) (Vec ℕ Global)) → IsOrdered string_cmp m → keys (files_of m) ≡ map string_bytes (tree.keys m)
stored_names m h = ap (map (λ (e : List ℕ × List ℕ). e.0)) (stored_pairs m h) ∙ names_stored m.entries

-- ---- a file is taken out
mapped_none : (b : Bool) (o : Option (Vec ℕ Global)) → option_map (λ (x : Vec ℕ Global). x.items) (cond b None o)
    ≡ cond b None (option_map (λ (x : Vec ℕ Global). x.items) o)
mapped_none true o = refl
mapped_none false o = refl

pub stored_less : (bs : List ℕ) (m n : BTreeMap (String Global) (Vec ℕ Global)) → UpdatesBy string_cmp (λ k. slice_cmp nat_cmp bs (string_bytes k)) m n None
    → files_of n ≡ remove (files_of m) bs
stored_less bs m n u = same_map nat_list_cmp_total exact_bytes _ _ (λ q.
    get_stored n q ∙ ap (option_map (λ (x : Vec ℕ Global). x.items)) (btree_map_updates_text bs m n None u q) ∙ mapped_none (bytes_eq bs q) (get_by_text m q)
    ∙ ap (λ b. cond b None (option_map (λ (x : Vec ℕ Global). x.items) (get_by_text m q)))
    (sym (is_eq-slice_cmp bs q) ∙ (eq_by_cmp_equiv nat_list_cmp_total).symm bs q)
    ∙ ap (λ o. cond (eq_by_cmp (slice_cmp nat_cmp) q bs) None o) (sym (get_stored m q))
    ∙ sym (get-remove nat_list_cmp_total (files_of m) bs q))

mapped_some : (o : Option (Vec ℕ Global)) → is_some (option_map (λ (x : Vec ℕ Global). x.items) o) ≡ is_some o
mapped_some None = refl
mapped_some (Some v) = refl

pub has_stored : (m : BTreeMap (String Global) (Vec ℕ Global)) (q : List ℕ) → is_some (get_by_text m q) ≡ contains_key (files_of m) q
has_stored m q = sym (ap is_some (get_stored m q) ∙ mapped_some (get_by_text m q))

-- the keys of a map, one after another
pub keys_shown : (ks : List (String Global)) → YieldsList (TakesFirst (deref {X = String Global})) (deref {X = String Global}) ks ks
keys_shown ks = YieldsList-from_shown (TakesFirst (deref {X = String Global})) deref (λ s. s) (λ s t h. ap length h.0) (λ s x t h. h) ks

-- The paths of the files of a store.
use Rattle.std.proofs.Common.{◌≡◌, ℕ, ◌+◌, true, false, List, [], ◌∷◌, ◌++◌, codes, length, length-append, append_assoc, take, drop, ap, sym, ◌∙◌, arith}
use Rattle.std.proofs.lemmas.Bool.{false_from_ne_true}
use Rattle.std.proofs.lemmas.Slice.Eq.{bytes_eq-Decides}
use Rattle.std.proofs.Math.Seq.{take-append_seam}
use Rattle.std.proofs.lemmas.List.{append_cancel_left, take-append-drop}
use Rattle.atomic_save.specs.Saving.{IsBeside}
use Rattle.map_store.specs.Paths.{path_to, front_of, is_of_new_file, IsName}

-- what follows the folder in both paths
rests : (folder name other rest : List ℕ) → path_to folder other ≡ front_of folder name ++ rest
    → codes "/" ++ other ≡ codes "/." ++ ((name ++ codes ".") ++ rest)
rests folder name other rest e = append_cancel_left folder _ _ (e ∙ append_assoc folder (codes "/." ++ (name ++ codes ".")) rest)

-- a file is not one of those by which it is replaced
pub path_apart : (folder name : List ℕ) → IsBeside (front_of folder name) (path_to folder name) → ⊥
path_apart folder name (rest, e) =
    let same = rests folder name name rest e in
    omega (arith, ap length same, length-append (name ++ codes ".") rest, length-append name (codes "."))

-- what is beside a file is no file of the store
pub beside_apart : (folder name other : List ℕ) → IsName other → IsBeside (front_of folder name) (path_to folder other) → ⊥
beside_apart folder name [] is (rest, e) = let same = rests folder name [] rest e in let no : [] ≡ 46 ∷ ((name ++ codes ".") ++ rest) = cc in absurd (cc)
beside_apart folder name (byte ∷ others) is (rest, e) = let same = rests folder name (byte ∷ others) rest e in let dot : byte ≡ 46 = cc in is dot

-- the path of a new file begins with the folder's, a slash and a dot
front_size : (folder : List ℕ) → length (folder ++ codes "/.") ≡ length folder + 2
front_size folder = length-append folder (codes "/.")

pub beside_told : (folder name at : List ℕ) → IsBeside (front_of folder name) at → is_of_new_file folder at ≡ true
beside_told folder name at (rest, e) =
    let front = folder ++ codes "/." in
    let whole : at ≡ front ++ ((name ++ codes ".") ++ rest) =
    e ∙ append_assoc folder (codes "/." ++ (name ++ codes ".")) rest ∙ ap (λ (l : List ℕ). folder ++ l) (append_assoc (codes "/.") (name ++ codes ".") rest)
    ∙ sym (append_assoc folder (codes "/.") ((name ++ codes ".") ++ rest)) in
    (bytes_eq-Decides (take (length folder + 2) at) front).1
    (ap (λ n. take n at) (sym (front_size folder)) ∙ ap (λ l. take (length front) l) whole ∙ take-append_seam front ((name ++ codes ".") ++ rest))

pub others_told : (folder name : List ℕ) → IsName name → is_of_new_file folder (path_to folder name) ≡ false
others_told folder name is = false_from_ne_true (is_of_new_file folder (path_to folder name)) (λ yes.
    let front = folder ++ codes "/." in
    let path = path_to folder name in
    let begins : take (length folder + 2) path ≡ front = (bytes_eq-Decides (take (length folder + 2) path) front).0 yes in
    let whole : path ≡ front ++ drop (length folder + 2) path =
    sym (take-append-drop (length folder + 2) path) ∙ ap (λ l. l ++ drop (length folder + 2) path) begins in
    let same = append_cancel_left folder (codes "/" ++ name) (codes "/." ++ drop (length folder + 2) path)
    (whole ∙ append_assoc folder (codes "/.") (drop (length folder + 2) path)) in
    named name (drop (length folder + 2) path) is same)
  where
    named : (name rest : List ℕ) → IsName name → codes "/" ++ name ≡ codes "/." ++ rest → ⊥
    named [] rest is e = let no : [] ≡ 46 ∷ rest = cc in absurd (cc)
    named (byte ∷ others) rest is e = let dot : byte ≡ 46 = cc in is dot

-- Where words leave a form, others that are read are the same in front of that place.
use Rattle.std.proofs.Common.{◌≡◌, ℕ, zero, suc, ◌+◌, ◌≤◌, ◌≢◌, eqb, Bool, true, false, cond, List, [], ◌∷◌, ◌++◌, length, take, replicate}
use Rattle.std.proofs.Common.{Ok, Err, Result}
use Rattle.std.proofs.Common.{◌-◌, ◌*◌, leb, IfOk, subst₂, Option, Some, None, refl, sym, ap, ◌∙◌, subst, arith, IsOk, IsTrue, ◌⊎◌, inl, inr, codes, ltb}
use Rattle.std.proofs.Common.{◌&&◌, pos, lit<}
use Rattle.std.specs.Fmt.{decimal}
use Rattle.std.specs.List.{AllByRecursion, join_with_byte, list_all}
use Rattle.std.specs.Str.{bytes_eq, IsUtf8}
use Rattle.std.proofs.lemmas.Bool.{cond_both, and_parts, and_from, leb-true}
use Rattle.std.proofs.lemmas.Int.{ints}
use Rattle.std.proofs.lemmas.List.{length-append, length-replicate, append_cancel_right}
use Rattle.std.proofs.lemmas.List.Elements.{All-replicate, All-from_recursion}
use Rattle.std.proofs.lemmas.List.Splits.{join_with_byte-slice_split}
use Rattle.std.proofs.Math.Nat.{mod_self}
use Rattle.std.proofs.Math.Seq.{take-append_seam}
use Rattle.std.proofs.lemmas.Slice.Eq.{bytes_eq-Decides}
use Rattle.refusals.specs.declared.line_fault.LineFault.{LineFault}
use Rattle.session.specs.declared.limits.TheConstants.{MAX_DOCUMENT_NAME, MAX_FILE_NAME}
use Rattle.refusals.specs.declared.line_fault.LineFault.TheVariants.{BadWord}
use Rattle.map_model.specs.declared.limits.TheConstants.{MAX_SIDE}
use Rattle.map_model.specs.declared.parts.LayerKind.TheVariants as kinds
use Rattle.map_model.specs.declared.owner.MemberOwner.TheVariants as members
use Rattle.map_model.specs.declared.owner.Owner.TheVariants as owners
use Rattle.session.specs.Words.{words, number_of, is_text, are_texts, cut_at_bars, bars}
use Rattle.session.specs.Grammar.{FieldKind, Number, Coordinate, Block, Name, File, Choice, LayerSort, YesNo, Truth, Key}
use Rattle.session.specs.Grammar.{Color, OwnerName, OwnerOfMembers, FieldValue}
use Rattle.session.specs.Grammar.{LineForm, Ends, Text, Texts, Json, Field, Word, Fails, word_at, field_at, read, ends_at, block_at}
use Rattle.session.specs.Grammar.{last_json_at, last_text_at, last_texts_at, word_is, ◌>>=◌}
use Rattle.session.specs.Spelling.{field_words, commas, AreRows, IsField, IsNumber, joined_by_bars, HasNoBars}
use Rattle.session.specs.Left.{either, is_side}
use Rattle.session.specs.Faults.{text_words, cut_by, field_size}
use Rattle.session.proofs.Bars.{cut_at_bars-joined, joined-cut_at_bars, no_bars_cut}
use Rattle.session.proofs.Cutting.{texts_of_words, goes_on}
use Rattle.session.proofs.Decimals.{decimal_from}
use Rattle.session.proofs.SpacedWords.{Clean, clean, plain_literal, clean_words, utf8-spaced, utf8-joined, utf8_before}
use Rattle.session.proofs.SpelledFields.{field_at-words, clean_field, block_at-words}
use Rattle.session.proofs.ReadFields.{is_name_from, is_text_from, ReadField, field_is_read}
use Rattle.session.proofs.Lengths.{field_room, total, total-append, total-words, number_within, field_within}
use Rattle.session.proofs.FieldWords.{side_passed, field_passed, reads_field}
use Rattle.session.proofs.Places.{passed, IsBranch, HasBranches, begins, behind_front}

pub literal : (word : List ℕ) → list_all (λ b. ltb 32 b && ltb b 128) word ≡ true → Clean word
literal word h = clean word (plain_literal word h)

-- a value of each field
abbrev pub sample : (kind : FieldKind) → FieldValue kind
sample Number = 0
sample Coordinate = pos 0
sample Block = (1, 0 ∷ [])
sample Name = codes "x"
sample File = codes "x"
sample Choice = None
sample LayerSort = kinds.Tile
sample YesNo = true
sample Truth = true
sample Key = codes "x"
sample Color = codes "#000000"
sample OwnerName = owners.Map
sample OwnerOfMembers = members.Map

pub sample_fits : (kind : FieldKind) → IsField kind (sample kind)
sample_fits Number = lit< tt
sample_fits Coordinate = record { low = omega (arith, ints); high = omega (arith, ints) }
sample_fits Block = record {
  some = omega arith;
  narrow = omega arith;
  rows = refl;
  filled = omega arith;
  numbers = All-from_recursion IsNumber (0 ∷ []) (lit< tt, tt);
}
sample_fits Name = is_name_from MAX_DOCUMENT_NAME (codes "x") refl
sample_fits File = is_name_from MAX_FILE_NAME (codes "x") refl
sample_fits Choice = tt
sample_fits LayerSort = tt
sample_fits YesNo = tt
sample_fits Truth = tt
sample_fits Key = record {
  some = omega arith;
  short = omega arith;
  bytes = All-from_recursion (λ b. (33 ≤ b) × (b ≢ 127)) (codes "x") ((lit< tt, λ e. omega (arith, e)), tt);
  utf8 = (literal (codes "x") refl).utf8;
}
sample_fits Color = refl
sample_fits OwnerName = tt
sample_fits OwnerOfMembers = tt

-- a form that some words are read by, along the values above
abbrev pub IsOpen : {A : Type 0} → LineForm A → Type 0
IsOpen (Field kind form) = IsOpen (form (sample kind))
IsOpen (Word word form other) = IsOpen form
IsOpen (Fails fault) = ⊥
IsOpen form = Unit {0}

-- the words that it looks for are plain, and behind each of them and each field it can go on
abbrev pub GoesOn : {A : Type 0} → LineForm A → Type 0
GoesOn (Field kind form) = (value : FieldValue kind) → IsOpen (form value) × GoesOn (form value)
GoesOn (Word word form other) = IsTrue (list_all (λ b. ltb 32 b && ltb b 128) word) × IsOpen form × GoesOn form × GoesOn other
GoesOn form = Unit {0}

-- no word follows
abbrev pub IsLast : {A : Type 0} → LineForm A → Type 0
IsLast (Ends line) = Unit {0}
IsLast form = ⊥

-- there is room for as many bytes of words: any fields but a block, behind which no word follows, and the shortest texts and blocks
abbrev pub HasRoom : {A : Type 0} → ℕ → LineForm A → Type 0
HasRoom k (Ends line) = Unit {0}
HasRoom k (Text line) = IsTrue (leb 2 k)
HasRoom k (Texts line) = IsTrue (leb 300 k)
HasRoom k (Json line) = IsTrue (leb 2 k)
HasRoom k (Field Block form) = IsTrue (leb 50000 k) × ((value : FieldValue Block) → IsLast (form value))
HasRoom k (Field kind form) = IsTrue (leb (field_room kind + 1) k) × ((value : FieldValue kind) → HasRoom (k - (field_room kind + 1)) (form value))
HasRoom k (Word word form other) = IsTrue (leb (length word + 1) k) × HasRoom (k - (length word + 1)) form × HasRoom k other
HasRoom k (Fails fault) = Unit {0}

-- what is left of the room behind a field
abbrev room_behind : FieldKind → ℕ → ℕ
room_behind Block k = 0
room_behind kind k = k - (field_room kind + 1)

last_room : {A : Type 0} (form : LineForm A) (k : ℕ) → IsLast form → HasRoom k form
last_room (Ends line) k h = tt
last_room (Text line) k h = absurd h
last_room (Texts line) k h = absurd h
last_room (Json line) k h = absurd h
last_room (Field kind form) k h = absurd h
last_room (Word word form other) k h = absurd h
last_room (Fails fault) k h = absurd h

-- behind a field there is the room that is left
behind_has_room : {A : Type 0} (kind : FieldKind) (form : FieldValue kind → LineForm A) (k : ℕ) → HasRoom k (Field kind form) → (value : FieldValue kind)
    → HasRoom (room_behind kind k) (form value)
behind_has_room Block form k h value = last_room (form value) 0 (h.1 value)
behind_has_room kind form k h value = h.1 value

-- words that a form reads, within that room
record Example {A : Type 0} (form : LineForm A) (k : ℕ) : Type 0 where
  ws : List (List ℕ)
  is_read : IsOk (read form ws)
  clean : AllByRecursion Clean ws
  short : total ws ≤ k

sample_room : {A : Type 0} (kind : FieldKind) (form : FieldValue kind → LineForm A) (k : ℕ) → HasRoom k (Field kind form)
    → total (field_words kind (sample kind)) + room_behind kind k ≤ k
unfolding total
sample_room Block form k h =
    let one : length (decimal 1) ≤ 10 = number_within 1 (lit< tt) in
    let none : length (commas (0 ∷ [])) ≤ 10 = number_within 0 (lit< tt) in
    omega (arith, one, none, leb-true 50000 k h.0)
sample_room kind form k h = omega (arith, field_within kind (sample kind) (sample_fits kind) (omega arith), leb-true (field_room kind + 1) k h.0)

pub clean_append : (us ws : List (List ℕ)) → AllByRecursion Clean us → AllByRecursion Clean ws → AllByRecursion Clean (us ++ ws)
clean_append [] ws h k = k
clean_append (u ∷ us) ws h k = (h.0, clean_append us ws h.1 k)

pub clean_take : (n : ℕ) (ws : List (List ℕ)) → AllByRecursion Clean ws → AllByRecursion Clean (take n ws)
clean_take zero ws h = tt
clean_take (suc n) [] h = tt
clean_take (suc n) (w ∷ ws) h = (h.0, clean_take n ws h.1)

pub clean_behind : (us ws : List (List ℕ)) → AllByRecursion Clean (us ++ ws) → AllByRecursion Clean ws
clean_behind [] ws h = h
clean_behind (u ∷ us) ws h = clean_behind us ws h.1

pub same_word : (word : List ℕ) → bytes_eq word word ≡ true
same_word word = (bytes_eq-Decides word word).1 refl

example : {A : Type 0} (form : LineForm A) (k : ℕ) → HasRoom k form → IsOpen form → GoesOn form → Example form k
unfolding ends_at last_text_at last_texts_at last_json_at total
example (Ends line) k r o g = record { ws = []; is_read = refl; clean = tt; short = omega arith }
example (Text line) k r o g = record { ws = codes "x" ∷ []; is_read = refl; clean = (literal (codes "x") refl, tt); short = omega (arith, leb-true 2 k r) }
example (Texts line) k r o g = record { ws = codes "x" ∷ []; is_read = refl; clean = (literal (codes "x") refl, tt); short = omega (arith, leb-true 300 k r) }
example (Json line) k r o g = record { ws = codes "x" ∷ []; is_read = refl; clean = (literal (codes "x") refl, tt); short = omega (arith, leb-true 2 k r) }
example (Field kind form) k r o g =
    let more = example (form (sample kind)) (room_behind kind k) (behind_has_room kind form k r (sample kind)) o (g (sample kind)).1 in
    record {
      ws = field_words kind (sample kind) ++ more.ws;
      is_read = rw (field_at-words kind (sample kind) more.ws (sample_fits kind)) more.is_read;
      clean = clean_append (field_words kind (sample kind)) more.ws (clean_field kind (sample kind) (sample_fits kind)) more.clean;
      short = omega (arith, total-append (field_words kind (sample kind)) more.ws, sample_room kind form k r, more.short);
    }
example (Word word form other) k r o g =
    let more = example form (k - (length word + 1)) r.1 o g.2 in
    record {
      ws = word ∷ more.ws;
      is_read = rw (same_word word) more.is_read;
      clean = (literal word g.0, more.clean);
      short = omega (arith, leb-true (length word + 1) k r.0, more.short);
    }
example (Fails fault) k r o g = absurd o

-- other words that are read, which are the same so far, and no longer than the first or within that room
pub record Other {A : Type 0} (form : LineForm A) (ws : List (List ℕ)) (k n : ℕ) : Type 0 where
  pub other : List (List ℕ)
  pub is_read : IsOk (read form other)
  pub same : take n (cut_by form other) ≡ take n (cut_by form ws)
  pub clean : AllByRecursion Clean other
  pub short : (total other ≤ total ws) ⊎ (total other ≤ k)

-- nothing so far, or other words
abbrev pub Found : {A : Type 0} → LineForm A → List (List ℕ) → ℕ → ℕ → Type 0
Found form ws k n = (n ≡ 0) ⊎ Other form ws k n

-- where a form can go on, there are other words
pub settled : {A : Type 0} (form : LineForm A) (k : ℕ) → HasRoom k form → IsOpen form → GoesOn form → (ws : List (List ℕ)) (n : ℕ)
    → Found form ws k n → Other form ws k n
settled form k r o g ws n (inl none) =
    let some = example form k r o g in
    subst (Other form ws k) (sym none) (record { other = some.ws; is_read = some.is_read; same = refl; clean = some.clean; short = inr some.short })
settled form k r o g ws n (inr found) = found

zero_rows : (width : ℕ) → is_side width ≡ true → AreRows width (replicate width 0)
zero_rows width h =
    let both = and_parts _ _ h in
    let some = leb-true 1 width both.0 in
    let values : List ℕ = replicate width 0 in
    let size : length values ≡ width = length-replicate width 0 in
    record {
      some = some;
      narrow = leb-true width MAX_SIDE both.1;
      rows = rw size (mod_self width);
      filled = omega (arith, some, size);
      numbers = All-replicate IsNumber width 0 (lit< tt);
    }

zeros_short : (n : ℕ) → length (commas (replicate n 0)) ≤ 11 * n
zeros_short zero = omega arith
zeros_short (suc zero) = let one : length (commas (replicate (suc zero) 0)) ≤ 10 = number_within 0 (lit< tt) in omega (arith, one)
zeros_short (suc (suc n)) =
    let one : length (decimal 0) ≤ 10 = number_within 0 (lit< tt) in
    let whole : length (commas (replicate (suc (suc n)) 0)) ≡ length (decimal 0) + length (44 ∷ commas (replicate (suc n) 0)) =
    length-append (decimal 0) (44 ∷ commas (replicate (suc n) 0)) in
    omega (arith, one, whole, zeros_short (suc n))

zeros_room : (width : ℕ) → AreRows width (replicate width 0) → total (field_words Block (width, replicate width 0)) ≤ 50000
unfolding total
zeros_room width h = omega (arith, h.narrow, zeros_short width, number_within width (omega (arith, h.narrow)))

-- the width alone is what it is to be
block_other : {A : Type 0} (form : FieldValue Block → LineForm A) (k : ℕ) → HasRoom k (Field Block form)
    → ((value : FieldValue Block) → IsOpen (form value) × GoesOn (form value))
    → (w : List ℕ) (ws : List (List ℕ)) (width : ℕ) (e : LineFault) → number_of w ≡ Some width → is_side width ≡ true
    → block_at (w ∷ ws) ≡ Err e → Other (Field Block form) (w ∷ ws) k 1
block_other form k r g w ws width e is side err =
    let value : ℕ × List ℕ = (width, replicate width 0) in
    let fits = zero_rows width side in
    let more = example (form value) 0 (last_room (form value) 0 (r.1 value)) (g value).0 (g value).1 in
    let others = decimal width ∷ commas (replicate width 0) ∷ more.ws in
    let done : block_at others ≡ Ok (value, more.ws) = block_at-words width (replicate width 0) more.ws fits in
    let word : decimal width ≡ w = (decimal_from w width is).0 in
    record {
      other = others;
      is_read = rw done more.is_read;
      same = rw (done, err) (ap (λ u. u ∷ []) word);
      clean = clean_append (field_words Block value) more.ws (clean_field Block value fits) more.clean;
      short = inr (omega (arith, total-append (field_words Block value) more.ws, zeros_room width fits, leb-true 50000 k r.0, more.short));
    }

block_found : {A : Type 0} (form : FieldValue Block → LineForm A) (k : ℕ) → HasRoom k (Field Block form)
    → ((value : FieldValue Block) → IsOpen (form value) × GoesOn (form value))
    → (ws : List (List ℕ)) (e : LineFault) → block_at ws ≡ Err e → Found (Field Block form) ws k (side_passed ws)
unfolding word_at
block_found form k r g [] e err = inl refl
block_found form k r g (w ∷ ws) e err = by_width (number_of w) refl
  where
    by_side : (width : ℕ) → number_of w ≡ Some width → (b : Bool) → is_side width ≡ b → Found (Field Block form) (w ∷ ws) k (cond b 1 0)
    by_side width is true side = inr (block_other form k r g w ws width e is side err)
    by_side width is false side = inl refl

    by_width : (o : Option ℕ) → number_of w ≡ o → Found (Field Block form) (w ∷ ws) k
        (either (λ (width : ℕ × List (List ℕ)). cond (is_side width.0) 1 0) 0 (word_is o >>= λ value. Ok (value, ws)))
    by_width None is = inl refl
    by_width (Some width) is = by_side width is (is_side width) refl

-- a field that is refused
refused_found : {A : Type 0} (kind : FieldKind) (form : FieldValue kind → LineForm A) (k : ℕ) → HasRoom k (Field kind form)
    → ((value : FieldValue kind) → IsOpen (form value) × GoesOn (form value))
    → (ws : List (List ℕ)) (e : LineFault) → field_at kind ws ≡ Err e → Found (Field kind form) ws k (field_passed kind ws)
refused_found Block form k r g ws e err = block_found form k r g ws e err
refused_found kind form k r g ws e err = inl refl

-- the words of a field that is read leave the room behind it, or no word follows
front_room : {A : Type 0} (kind : FieldKind) (form : FieldValue kind → LineForm A) (k : ℕ) → HasRoom k (Field kind form) → (ws : List (List ℕ))
    → (x : FieldValue kind × List (List ℕ)) → field_at kind ws ≡ Ok x → AllByRecursion Clean ws
    → (room_behind kind k ≡ 0) ⊎ (total (take (field_size kind) ws) + room_behind kind k ≤ k)
front_room Block form k r ws x e c = inl refl
front_room kind form k r ws x e c =
    let read : ReadField kind ws x = subst (λ s. IfOk s (ReadField kind ws)) e (field_is_read kind ws c) in
    let front : take (field_size kind) ws ≡ field_words kind x.0 = append_cancel_right (take (field_size kind) ws) (field_words kind x.0) x.1
    (((reads_field kind).splits ws x e).0 ∙ read.words) in
    inr (omega (arith, ap total front, field_within kind x.0 read.fits (omega arith), leb-true (field_room kind + 1) k r.0))

-- a length with the same words in front
pub short_behind : (front a b k j : ℕ) → (j ≡ 0) ⊎ (front + j ≤ k) → (a ≤ b) ⊎ (a ≤ j) → (front + a ≤ front + b) ⊎ (front + a ≤ k)
short_behind front a b k j r (inl same) = inl (omega arith)
short_behind front a b k j (inl none) (inr less) = inl (omega arith)
short_behind front a b k j (inr room) (inr less) = inr (omega arith)

-- a field that is read, and words behind it
field_other : {A : Type 0} (kind : FieldKind) (form : FieldValue kind → LineForm A) (k : ℕ) → HasRoom k (Field kind form) → (ws : List (List ℕ))
    → (x : FieldValue kind × List (List ℕ)) → field_at kind ws ≡ Ok x → AllByRecursion Clean ws → (n : ℕ) → Other (form x.0) x.1 (room_behind kind k) n
    → Other (Field kind form) ws k (field_size kind + n)
field_other kind form room r ws x e c n o =
    let reader = reads_field kind in
    let k = take (field_size kind) ws in
    let split = reader.splits ws x e in
    let read_again : field_at kind (k ++ o.other) ≡ Ok (x.0, o.other) = reader.again ws o.other x e in
    let whole : total (k ++ o.other) ≡ total k + total o.other = total-append k o.other in
    let old : total k + total x.1 ≡ total ws = sym (total-append k x.1) ∙ ap total split.0 in
    let lengths = λ (s : (total k + total o.other ≤ total k + total x.1) ⊎ (total k + total o.other ≤ room)). subst₂ (λ (a b : ℕ). (a ≤ b) ⊎ (a ≤ room))
    (sym whole) old s in
    let front : take (field_size kind) (k ++ o.other) ≡ k = ap (λ m. take m (k ++ o.other)) (sym split.1) ∙ take-append_seam k o.other in
    record {
      other = k ++ o.other;
      is_read = rw read_again o.is_read;
      same = rw (read_again, e, front) (behind_front (field_size kind) n k (cut_by (form x.0) o.other) split.1 ∙ ap (λ vs. k ++ vs) o.same
          ∙ sym (behind_front (field_size kind) n k (cut_by (form x.0) x.1) split.1));
      clean = clean_append k o.other (clean_take (field_size kind) ws c) o.clean;
      short = lengths (short_behind (total k) (total o.other) (total x.1) room (room_behind kind room) (front_room kind form room r ws x e c) o.short);
    }

field_found : {A : Type 0} (kind : FieldKind) (form : FieldValue kind → LineForm A) (k : ℕ) → HasRoom k (Field kind form)
    → ((value : FieldValue kind) → IsOpen (form value) × GoesOn (form value))
    → (ws : List (List ℕ)) → AllByRecursion Clean ws
    → ((value : FieldValue kind) (us : List (List ℕ)) → AllByRecursion Clean us → Found (form value) us (room_behind kind k) (passed (form value) us))
    → (r : Result (FieldValue kind × List (List ℕ)) LineFault) → field_at kind ws ≡ r
    → Found (Field kind form) ws k (either (λ value. field_size kind + passed (form value.0) value.1) (field_passed kind ws) r)
field_found kind form k r g ws c found (Ok x) e =
    let split = (reads_field kind).splits ws x e in
    let behind : AllByRecursion Clean x.1 = clean_behind (take (field_size kind) ws) x.1 (subst (AllByRecursion Clean) (sym split.0) c) in
    let n = passed (form x.0) x.1 in
    inr (field_other kind form k r ws x e c n
    (settled (form x.0) (room_behind kind k) (behind_has_room kind form k r x.0) (g x.0).0 (g x.0).1 x.1 n (found x.0 x.1 behind)))
field_found kind form k r g ws c found (Err f) e = refused_found kind form k r g ws f e

-- the same first word leads to the other form again
branch_other : {A : Type 0} (word : List ℕ) (form other : LineForm A) (k : ℕ) → IsBranch other → HasBranches other → (w : List ℕ) (ws : List (List ℕ))
    → bytes_eq w word ≡ false → (n : ℕ) (vs : List (List ℕ)) → IsOk (read other vs) → take (suc n) (cut_by other vs) ≡ take (suc n) (cut_by other (w ∷ ws))
    → AllByRecursion Clean vs → (total vs ≤ total (w ∷ ws)) ⊎ (total vs ≤ k) → Other (Word word form other) (w ∷ ws) k (suc n)
branch_other word form other k b h w ws is n [] o same c short = absurd (none_empty other b o)
  where
    none_empty : {A : Type 0} (f : LineForm A) → IsBranch f → IsOk (read f []) → ⊥
    none_empty (Ends line) i r = absurd i
    none_empty (Text line) i r = absurd i
    none_empty (Texts line) i r = absurd i
    none_empty (Json line) i r = absurd i
    none_empty (Field kind f) i r = absurd i
    none_empty (Word v f g) i r = absurd cc
    none_empty (Fails fault) i r = absurd cc
branch_other word form other k b h w ws is n (v ∷ vs) o same c short =
    let at = begins other b h w ws in
    let here = begins other b h v vs in
    let both : take (suc n) (v ∷ here.rest) ≡ take (suc n) (w ∷ at.rest) = ap (take (suc n)) (sym here.is) ∙ same ∙ ap (take (suc n)) at.is in
    let first : v ≡ w = cc in
    let not : bytes_eq v word ≡ false = ap (λ u. bytes_eq u word) first ∙ is in
    record { other = v ∷ vs; is_read = rw not o; same = rw (not, is) same; clean = c; short = short }

branch_found : {A : Type 0} (word : List ℕ) (form other : LineForm A) (k : ℕ) → IsBranch other → HasBranches other → (w : List ℕ) (ws : List (List ℕ))
    → bytes_eq w word ≡ false → (n : ℕ) → Found other (w ∷ ws) k n → Found (Word word form other) (w ∷ ws) k n
branch_found word form other k b h w ws is n (inl none) = inl none
branch_found word form other k b h w ws is zero (inr o) = inl refl
branch_found word form other k b h w ws is (suc n) (inr o) = inr (branch_other word form other k b h w ws is n o.other o.is_read o.same o.clean o.short)

texts_cut : {A : Type 0} (line : List ℕ → Option (List ℕ) → A) (ws : List (List ℕ)) → ends_at ws ≡ Err BadWord
    → cut_by (Texts line) ws ≡ text_words (cut_at_bars (join_with_byte 32 ws))
unfolding ends_at
texts_cut line [] h = absurd cc
texts_cut line (w ∷ ws) h = refl

-- the words of a text are cut as the text is
words_cut : {A : Type 0} (line : List ℕ → Option (List ℕ) → A) (bytes : List ℕ) → cut_by (Texts line) (words bytes) ≡ text_words (cut_at_bars bytes)
words_cut line bytes = texts_cut line (words bytes) (goes_on (λ b. eqb b 32) bytes)
    ∙ ap (λ bs. text_words (cut_at_bars bs)) (join_with_byte-slice_split 32 bytes)

-- the texts of a macro, the first of which is one, and another action
action_other : {A : Type 0} (line : List ℕ → Option (List ℕ) → A) (k : ℕ) → 300 ≤ k → (w : List ℕ) (ws : List (List ℕ)) → AllByRecursion Clean (w ∷ ws)
    → (cut : List ℕ × Option (List ℕ)) → cut_at_bars (join_with_byte 32 (w ∷ ws)) ≡ cut → is_text cut.0 ≡ true → Other (Texts line) (w ∷ ws) k 2
unfolding last_texts_at
action_other line k r w ws c (text, None) e is = record { other = w ∷ ws; is_read = rw (e, is) refl; same = refl; clean = c; short = inl (omega arith) }
action_other line k r w ws c (text, Some action) e is =
    let x : List ℕ = codes "x" in
    let whole = join_with_byte 32 (w ∷ ws) in
    let bytes = joined_by_bars text (Some x) in
    let no_bars : HasNoBars text (Some x) = subst (λ (p : List ℕ × Option (List ℕ)). HasNoBars p.0 p.1) e (no_bars_cut whole) in
    let cut : cut_at_bars bytes ≡ (text, Some x) = cut_at_bars-joined text (Some x) no_bars in
    let joined : joined_by_bars text (Some action) ≡ whole = ap (λ (p : List ℕ × Option (List ℕ)). joined_by_bars p.0 p.1) (sym e) ∙ joined-cut_at_bars whole in
    let utf8 : IsUtf8 text = utf8_before text (codes "|| " ++ action) (subst IsUtf8 (sym joined) (utf8-spaced (w ∷ ws) c)) in
    let both : are_texts text (Some x) ≡ true = and_from (is_text text) (is_text x) is refl in
    let is_short = (is_text_from text is utf8).short in
    record {
      other = words bytes;
      is_read = rw (texts_of_words bytes, cut, both) refl;
      same = ap (take 2) (words_cut line bytes ∙ ap text_words cut) ∙ ap (λ p. take 2 (text_words p)) (sym e);
      clean = clean_words bytes (utf8-joined text (Some x) (record {
        first = is_text_from text is utf8;
        second = is_text_from x refl (literal x refl).utf8;
        no_bars = no_bars;
      }));
      short = inr (omega (arith, r, total-words bytes, length-append text (bars ++ x), is_short));
    }

texts_found : {A : Type 0} (line : List ℕ → Option (List ℕ) → A) (k : ℕ) → 300 ≤ k → (ws : List (List ℕ)) → AllByRecursion Clean ws
    → Found (Texts line) ws k (passed (Texts line) ws)
texts_found line k r [] c = inl refl
texts_found line k r (w ∷ ws) c =
    let text = (cut_at_bars (join_with_byte 32 (w ∷ ws))).0 in
    cond_both (is_text text) 2 0 (Found (Texts line) (w ∷ ws) k) (λ is. inr (action_other line k r w ws c (cut_at_bars (join_with_byte 32 (w ∷ ws))) refl is))
    (λ _. inl refl)

-- a word that is looked for, and words behind it
word_other : {A : Type 0} (word : List ℕ) (form other : LineForm A) (k : ℕ) → IsTrue (leb (length word + 1) k) → (w : List ℕ) (ws : List (List ℕ)) → Clean w
    → bytes_eq w word ≡ true → (n : ℕ) → Other form ws (k - (length word + 1)) n → Other (Word word form other) (w ∷ ws) k (suc n)
unfolding total
word_other word form other k r w ws c is n o =
    let room : length word + 1 ≤ k = leb-true (length word + 1) k r in
    let same : w ≡ word = (bytes_eq-Decides w word).0 is in
    let size : length w ≡ length word = ap length same in
    record {
      other = w ∷ o.other;
      is_read = rw is o.is_read;
      same = rw is (ap (λ vs. w ∷ vs) o.same);
      clean = (c, o.clean);
      short = short_behind (length w + 1) (total o.other) (total ws) k (k - (length word + 1)) (inr (omega (arith, room, size))) o.short;
    }

-- words that are read are the same in front of the word at fault, if there is one in front of it
pub found : {A : Type 0} (form : LineForm A) (k : ℕ) → HasRoom k form → HasBranches form → GoesOn form → (ws : List (List ℕ)) → AllByRecursion Clean ws
    → Found form ws k (passed form ws)
found (Ends line) k r h g ws c = inl refl
found (Text line) k r h g ws c = inl refl
found (Texts line) k r h g ws c = texts_found line k (leb-true 300 k r) ws c
found (Json line) k r h g ws c = inl refl
found (Field kind form) k r h g ws c = field_found kind form k r g ws c
    (λ value us d. found (form value) (room_behind kind k) (behind_has_room kind form k r value) (h value) (g value).1 us d) (field_at kind ws) refl
found (Word word form other) k r h g [] c = inl refl
found (Word word form other) k r h g (w ∷ ws) c =
    cond_both (bytes_eq w word) (suc (passed form ws)) (passed other (w ∷ ws)) (Found (Word word form other) (w ∷ ws) k)
    (λ is. inr (word_other word form other k r.0 w ws c.0 is (passed form ws)
    (settled form (k - (length word + 1)) r.1 g.1 g.2 ws (passed form ws) (found form (k - (length word + 1)) r.1 h.0 g.2 ws c.1))))
    (λ is. branch_found word form other k h.1 h.2 w ws is (passed other (w ∷ ws)) (found other k r.2 h.2 g.3 (w ∷ ws) c))
found (Fails fault) k r h g ws c = inl refl

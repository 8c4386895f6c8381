-- What was read is well formed, as far as one owner tells: values, properties, elements, numbers and cells.
use Rattle.std.proofs.Common.{◌≡◌, IsUtf8, ℕ, suc, ◌+◌, ◌-◌, ◌*◌, ◌^◌, ◌<◌, ◌≤◌, ℤ, eqb, Bool, true, false, cond, ◌&&◌, List, [], ◌∷◌, length, Option, Some}
use Rattle.std.proofs.Common.{None, Result, Ok, Err, refl, sym, ap, subst, arith}
use Rattle.std.proofs.lemmas.Float.{T_from_true}
use Rattle.std.specs.Prelude.{codes, IfSome, nat_le, nat_lt, option_and_then, option_map, if◌then◌else◌}
use Rattle.std.specs.List.{list_all}
use Rattle.std.specs.Result.{result_ok}
use Rattle.std.specs.Int.Signed.{le_z_yes}
use Rattle.std.proofs.lemmas.Int.{ints}
use Rattle.std.proofs.lemmas.Bool.{eqb-true, leb-true, ltb-true, le-leb, and_parts}
use Rattle.std.specs.Option.{ok_or}
use Rattle.json.proofs.Printed.Utf8.{IsUtf8-are_ascii}
use Rattle.base64.specs.Engines.{standard}
use Rattle.base64.specs.GeneralPurpose.{decode_of}
use Rattle.serde_json.specs.Events.{items_len}
use Rattle.serde_json.specs.Data.{Num, unsigned, negative, float, Data, Members, null, boolean, array, string, number, object, Items, no_items, item}
use Rattle.serde_json.specs.Find.{get_member, as_object, as_array, as_number, as_str, as_u64}
use Rattle.map_model.specs.declared.names.TheConstants.{NAME, TYPE, PROPERTIES, VALUE}
use Rattle.map_model.specs.declared.limits.TheConstants.{MAX_DEPTH, MAX_PROPERTIES}
use Rattle.map_model.specs.declared.parts.Encoding.{Encoding}
use Rattle.map_model.specs.declared.parts.Encoding.TheVariants.{Array, Base64}
use Rattle.map_model.specs.declared.parts.Property.{Property}
use Rattle.map_model.specs.Lists.{Each}
use Rattle.map_model.specs.Keeping.{AreKept, IsKeptValue, IsOfAnotherKind, property_tier}
use Rattle.map_model.specs.Format.{property_names}
use Rattle.map_model.specs.WellFormed.{IsWhole, IsValue, IsProperty}
use Rattle.map_model.specs.Refusing.{◌>>=◌, ◌>>◌, check}
use Rattle.json_members.specs.Members.{without_all}
use Rattle.refusals.specs.declared.map_refusal.MapRefusal.{MapRefusal}
use Rattle.refusals.specs.declared.map_refusal.MapRefusal.TheVariants.{MemberOfAnotherKind, OverLimit, BadData}
use Rattle.map_values.specs.Presence.{required, absent_means, optional}
use Rattle.map_values.specs.Scalars.{whole_at, text_at}
use Rattle.map_json.specs.Elements.{each, elements_at}
use Rattle.map_values.specs.Cells.{cell_of, cells_of, packed, words_of, is_byte, array_cells_at, base64_cells_at}
use Rattle.map_json.specs.Reading.{value_of, value_at, property_at, properties_of, cells_at}
use Rattle.map_json.proofs.Fine.{IsFineNum, IsFine, AreFineItems, AreFineMembers}
use Rattle.map_json.proofs.FineLemmas.{IsFine-get_member, AreFineMembers-without_all, has_float-fine, members_have_float-fine, depth-fine, members_depth-fine}
use Rattle.map_json.proofs.FineLemmas.{IsReadable-fine, AreReadableMembers-fine}
use Rattle.map_json.proofs.Lacking.{LacksAll-without_all}
use Rattle.map_values.proofs.Words.{words_sound}

pub bind_ok : {A B : Type 0} (r : Result A MapRefusal) (f : A → Result B MapRefusal) (y : B) → (r >>= f) ≡ Ok y → (x : A) × (r ≡ Ok x) × (f x ≡ Ok y)
bind_ok (Ok x) f y e = (x, refl, e)
bind_ok (Err d) f y e = absurd cc

abbrev done : {A : Type 0} → A → Result A MapRefusal
done x = Ok x

pub ok_is : {A : Type 0} (x y : A) → done x ≡ done y → x ≡ y
ok_is x y e = cc

pub ok_or_ok : {A : Type 0} (o : Option A) (f : MapRefusal) (x : A) → ok_or o f ≡ Ok x → o ≡ Some x
ok_or_ok None f x e = absurd cc
ok_or_ok (Some y) f x e = ap (λ z. Some z) (ok_is y x e)

pub required_ok : {A : Type 0} (read : Data → Result A MapRefusal) (o : Option Data) (x : A) → required read o ≡ Ok x
    → (d : Data) × (o ≡ Some d) × (read d ≡ Ok x)
required_ok read None x e = absurd cc
required_ok read (Some d) x e = (d, refl, e)

-- one step that did not refuse
pub by_bind : {A B : Type 0} {C : Type 0} (r : Result A MapRefusal) (f : A → Result B MapRefusal) (y : B) → (r >>= f) ≡ Ok y
    → ((x : A) → r ≡ Ok x → f x ≡ Ok y → C) → C
by_bind (Ok x) f y e next = next x refl e
by_bind (Err d) f y e next = absurd cc

-- one whose value nothing needs
pub by_step : {A B : Type 0} {C : Type 0} (r : Result A MapRefusal) (rest : Result B MapRefusal) (y : B) → (r >> rest) ≡ Ok y → (rest ≡ Ok y → C) → C
by_step (Ok x) rest y e next = next e
by_step (Err d) rest y e next = absurd cc

-- a test that was passed
pub by_check : {B : Type 0} {C : Type 0} (b : Bool) (f : MapRefusal) (rest : Result B MapRefusal) (y : B) → (check b f >> rest) ≡ Ok y
    → (b ≡ true → rest ≡ Ok y → C) → C
by_check true f rest y e next = next refl e
by_check false f rest y e next = absurd cc

negative_whole : (z w : ℤ) → IsFineNum (negative z) → z ≡ w → IsWhole w
negative_whole z w h e = subst IsWhole e (record { low = h.0; high = let below = h.1 in omega (arith, ints) })

-- a value that is kept, with room for its tiers
kept_value : (tier n : ℕ) (d : Data) → tier + n ≤ MAX_DEPTH → IsFine n d → IsOfAnotherKind d → IsKeptValue tier d
kept_value tier n d room h kind =
    let deep = depth-fine n d h in
    record { kind = kind; whole = has_float-fine n d h; shallow = omega arith; readable = IsReadable-fine n d h }

unsigned_held : (b : Bool) (tier n m : ℕ) → tier + n ≤ MAX_DEPTH → nat_lt m (2 ^ 63) ≡ b → m < 2 ^ 64 → IsValue tier (value_of (number (unsigned m)))
unsigned_held true tier n m room e h = let lt : m < 2 ^ 63 = ltb-true m (2 ^ 63) e in
    let le : m ≤ 2 ^ 63 - 1 = omega arith in
    rw e (record { low = le_z_yes tt; high = le_z_yes (T_from_true (nat_le m (2 ^ 63 - 1)) (le-leb m (2 ^ 63 - 1) le)) })
unsigned_held false tier n m room e h = rw e (kept_value tier n (number (unsigned m)) room h (rw e refl))

pub value_sound : (tier n : ℕ) (d : Data) → tier + n ≤ MAX_DEPTH → IsFine n d → IsValue tier (value_of d)
value_sound tier n null room h = kept_value tier n null room h tt
value_sound tier n (boolean b) room h = tt
value_sound tier n (number (unsigned m)) room h = unsigned_held (nat_lt m (2 ^ 63)) tier n m room refl h
value_sound tier n (number (negative z)) room h = negative_whole z z h refl
value_sound tier n (number (float x)) room h = absurd h
value_sound tier n (string s) room h = h
value_sound tier n (array ds) room h = kept_value tier n (array ds) room h tt
value_sound tier n (object ms) room h = kept_value tier n (object ms) room h tt

pub kept_sound : (tier n : ℕ) (names : List (List ℕ)) (ms : Members) → tier + n ≤ MAX_DEPTH → AreFineMembers n ms → AreKept tier names (without_all names ms)
kept_sound tier n names ms room h =
    let fine = AreFineMembers-without_all n names ms h in
    let deep = members_depth-fine n (without_all names ms) fine in
    record {
      unread = LacksAll-without_all names ms;
      whole = members_have_float-fine n (without_all names ms) fine;
      shallow = omega arith;
      readable = AreReadableMembers-fine n (without_all names ms) fine;
    }

-- ---- texts
text_sound : (n : ℕ) (d : Data) (s : List ℕ) → IsFine n d → text_at d ≡ Ok s → IsUtf8 s
unfolding text_at
text_sound n (string t) s h e = subst IsUtf8 (ok_is t s e) h
text_sound n null s h e = absurd cc
text_sound n (boolean b) s h e = absurd cc
text_sound n (number x) s h e = absurd cc
text_sound n (array x) s h e = absurd cc
text_sound n (object x) s h e = absurd cc

module _ (n : ℕ) (name : List ℕ) (ms : Members) (fine : AreFineMembers n ms) where
  pub required_text_sound : (s : List ℕ) → required text_at (get_member name ms) ≡ Ok s → IsUtf8 s
  required_text_sound s e =
      let r = required_ok text_at (get_member name ms) s e in
      text_sound n r.0 s (IsFine-get_member n name ms r.0 fine r.1) r.2

  pub text_or_sound : (t s : List ℕ) → IsUtf8 t → absent_means t text_at (get_member name ms) ≡ Ok s → IsUtf8 s
  text_or_sound t s utf8 e = by_member (get_member name ms) refl e
    where
      by_member : (o : Option Data) → get_member name ms ≡ o → absent_means t text_at o ≡ Ok s → IsUtf8 s
      by_member None is f = subst IsUtf8 (ok_is t s f) utf8
      by_member (Some d) is f = text_sound n d s (IsFine-get_member n name ms d fine is) f

  pub optional_text_sound : (s : Option (List ℕ)) → optional text_at (get_member name ms) ≡ Ok s → IfSome s IsUtf8
  optional_text_sound s e = by_member (get_member name ms) refl e
    where
      by_member : (o : Option Data) → get_member name ms ≡ o → optional text_at o ≡ Ok s → IfSome s IsUtf8
      by_member None is f = subst (λ t. IfSome t IsUtf8) (ok_is None s f) tt
      by_member (Some d) is f =
          by_bind (text_at d) _ s f (λ t t_is f1.
          subst (λ u. IfSome u IsUtf8) (ok_is (Some t) s f1) (text_sound n d t (IsFine-get_member n name ms d fine is) t_is))

pub object_fine : (n : ℕ) (d : Data) (ms : Members) → IsFine (suc n) d → as_object d ≡ Some ms → AreFineMembers n ms
object_fine n (object ks) ms h e = let s : ks ≡ ms = cc in subst (λ (x : Members). AreFineMembers n x) s h
object_fine n null ms h e = absurd cc
object_fine n (boolean b) ms h e = absurd cc
object_fine n (number x) ms h e = absurd cc
object_fine n (string x) ms h e = absurd cc
object_fine n (array x) ms h e = absurd cc

pub property_sound : (tier n : ℕ) → tier + n ≤ MAX_DEPTH → (d : Data) (p : Property) → IsFine (suc n) d → property_at d ≡ Ok p → IsProperty tier p
unfolding property_at
property_sound tier n room d p fine e =
    by_bind (ok_or (as_object d) MemberOfAnotherKind) _ p e (λ ms object e1.
    by_bind (required text_at (get_member NAME.now ms)) _ p e1 (λ name name_is e2.
    by_bind (absent_means (codes "string") text_at (get_member TYPE.now ms)) _ p e2 (λ kind kind_is e3.
    by_bind (required value_at (get_member VALUE.now ms)) _ p e3 (λ value value_is e4.
    let members = object_fine n d ms fine (ok_or_ok (as_object d) MemberOfAnotherKind ms object) in
    let found = required_ok value_at (get_member VALUE.now ms) value value_is in
    let held : IsValue tier value = subst (IsValue tier) (ok_is (value_of found.0) value found.2)
    (value_sound tier n found.0 room (IsFine-get_member n VALUE.now ms found.0 members found.1)) in
    let made : IsProperty tier (record { name = name; kind = kind; value = value; kept = without_all property_names ms }) = record {
      name = required_text_sound n NAME.now ms members name name_is;
      kind = text_or_sound n TYPE.now ms members (codes "string") kind (IsUtf8-are_ascii (codes "string") refl) kind_is;
      value = held;
      kept = kept_sound tier n property_names ms room members;
    } in
    subst (IsProperty tier) (ok_is (record { name = name; kind = kind; value = value; kept = without_all property_names ms }) p e4) made))))

-- a test that did not refuse
pub chosen : {A : Type 0} (b : Bool) (r : Result A MapRefusal) (f : MapRefusal) (x : A) → cond b r (Err f) ≡ Ok x → (b ≡ true) × (r ≡ Ok x)
chosen true r f x e = (refl, e)
chosen false r f x e = absurd cc

-- ---- arrays

pub array_fine : (n : ℕ) (d : Data) (ds : Items) → IsFine (suc n) d → as_array d ≡ Some ds → AreFineItems n ds
array_fine n (array es) ds h e = let s : es ≡ ds = cc in subst (λ (x : Items). AreFineItems n x) s h
array_fine n null ms h e = absurd cc
array_fine n (boolean b) ms h e = absurd cc
array_fine n (number x) ms h e = absurd cc
array_fine n (string x) ms h e = absurd cc
array_fine n (object x) ms h e = absurd cc

module _ {A : Type 0} (P : A → Type 0) (read : Data → Result A MapRefusal) (n : ℕ) (sound : (d : Data) (x : A) → IsFine n d → read d ≡ Ok x → P x) where
  pub each_sound : (ds : Items) (xs : List A) → AreFineItems n ds → each read ds ≡ Ok xs → (length xs ≡ items_len ds) × Each P xs
  each_sound no_items xs h e = subst (λ (ys : List A). (length ys ≡ 0) × Each P ys) (ok_is [] xs e) (refl, tt)
  each_sound (item d ds) xs h e =
      by_bind (read d) _ xs e (λ x x_is e1.
      by_bind (each read ds) _ xs e1 (λ ys ys_is e2.
      let more = each_sound ds ys h.1 ys_is in
      subst (λ (zs : List A). (length zs ≡ suc (items_len ds)) × Each P zs) (ok_is (x ∷ ys) xs e2) (ap suc more.0, (sound d x h.0 x_is, more.1))))

  pub elements_sound : (most : ℕ) (d : Data) (xs : List A) → IsFine (suc n) d → elements_at most read d ≡ Ok xs → (length xs ≤ most) × Each P xs
  elements_sound most d xs h e =
      by_bind (ok_or (as_array d) MemberOfAnotherKind) _ xs e (λ ds ds_is e1.
      let fits = chosen (nat_le (items_len ds) most) (each read ds) OverLimit xs e1 in
      let all = each_sound ds xs (array_fine n d ds h (ok_or_ok (as_array d) MemberOfAnotherKind ds ds_is)) fits.1 in
      (subst (λ (k : ℕ). k ≤ most) (sym all.0) (leb-true (items_len ds) most fits.0), all.1))

-- properties that were read; whether their names differ is told apart
pub record WereRead (tier : ℕ) (ps : List Property) : Type 0 where
  pub few : length ps ≤ MAX_PROPERTIES
  pub each : Each (IsProperty (property_tier tier)) ps

pub properties_sound : (tier n : ℕ) → property_tier tier + n ≤ MAX_DEPTH → (ms : Members) (ps : List Property) → AreFineMembers (suc (suc n)) ms
    → properties_of ms ≡ Ok ps → WereRead tier ps
properties_sound tier n room ms ps h e = at_member (get_member PROPERTIES.now ms) refl e where
  at_member : (o : Option Data) → get_member PROPERTIES.now ms ≡ o → absent_means [] (elements_at MAX_PROPERTIES property_at) o ≡ Ok ps → WereRead tier ps
  at_member None is f = subst (WereRead tier) (ok_is [] ps f) (record { few = omega arith; each = tt })
  at_member (Some d) is f =
      let s = elements_sound (IsProperty (property_tier tier)) property_at (suc n) (property_sound (property_tier tier) n room) MAX_PROPERTIES d ps
      (IsFine-get_member (suc (suc n)) PROPERTIES.now ms d h is) f in
      record { few = s.0; each = s.1 }

-- ---- scalars and cells

pub whole_sound : (low high : ℕ) (d : Data) (n : ℕ) → whole_at low high d ≡ Ok n → (low ≤ n) × (n ≤ high)
unfolding whole_at
whole_sound low high d n e =
    by_bind (ok_or (as_number d) MemberOfAnotherKind) _ n e (λ x x_is e1.
    by_bind (ok_or (as_u64 x) OverLimit) _ n e1 (λ k k_is e2.
    let c = chosen (nat_le low k && nat_le k high) (Ok k) OverLimit n e2 in
    let b = and_parts (nat_le low k) (nat_le k high) c.0 in
    subst (λ (m : ℕ). (low ≤ m) × (m ≤ high)) (ok_is k n c.1) (leb-true low k b.0, leb-true k high b.1)))

pub required_whole_sound : (low high : ℕ) (o : Option Data) (n : ℕ) → required (whole_at low high) o ≡ Ok n → (low ≤ n) × (n ≤ high)
required_whole_sound low high o n e = let r = required_ok (whole_at low high) o n e in whole_sound low high r.0 n r.2

cell_sound : (d : Data) (c : ℕ) → cell_of d ≡ Some c → c < 2 ^ 32
unfolding cell_of
cell_sound d c e = at_number (as_number d) e where
  at_number : (o : Option Num) → option_and_then (λ n. option_and_then (λ k. if nat_lt k (2 ^ 32) then Some k else None) (as_u64 n)) o ≡ Some c → c < 2 ^ 32
  at_number None f = absurd cc
  at_number (Some x) f = at_whole (as_u64 x) f where
    at_whole : (o : Option ℕ) → option_and_then (λ k. if nat_lt k (2 ^ 32) then Some k else None) o ≡ Some c → c < 2 ^ 32
    at_whole None g = absurd cc
    at_whole (Some k) g = at_test (nat_lt k (2 ^ 32)) refl g where
      at_test : (b : Bool) → nat_lt k (2 ^ 32) ≡ b → cond b (Some k) None ≡ Some c → c < 2 ^ 32
      at_test true is h = let s : k ≡ c = cc in subst (λ (m : ℕ). m < 2 ^ 32) s (ltb-true k (2 ^ 32) is)
      at_test false is h = absurd cc

cells_sound : (ds : Items) (cells : List ℕ) → cells_of ds ≡ Some cells → Each (λ c. c < 2 ^ 32) cells
cells_sound no_items cells e = let s : [] ≡ cells = cc in subst (λ (x : List ℕ). Each (λ c. c < 2 ^ 32) x) s tt
cells_sound (item d ds) cells e = at_cell (cell_of d) refl (cells_of ds) refl e (cells_sound ds) where
  at_cell : (o : Option ℕ) → cell_of d ≡ o → (r : Option (List ℕ)) → cells_of ds ≡ r → option_and_then (λ c. option_map (λ cs. c ∷ cs) r) o ≡ Some cells
      → ((cs : List ℕ) → cells_of ds ≡ Some cs → Each (λ c. c < 2 ^ 32) cs) → Each (λ c. c < 2 ^ 32) cells
  at_cell None is r r_is f more = absurd cc
  at_cell (Some c) is None r_is f more = absurd cc
  at_cell (Some c) is (Some cs) r_is f more = let s : c ∷ cs ≡ cells = cc in
      subst (λ (x : List ℕ). Each (λ c. c < 2 ^ 32) x) s (cell_sound d c is, more cs r_is)

abbrev AreCells : ℕ → List ℕ → Type 0
AreCells count cells = (length cells ≡ count) × Each (λ c. c < 2 ^ 32) cells

pub cells_tree_sound : (e : Encoding) (count : ℕ) (d : Data) (cells : List ℕ) → cells_at e count d ≡ Ok cells → AreCells count cells
unfolding array_cells_at base64_cells_at
cells_tree_sound Array count d cells e =
    by_bind (ok_or (as_array d) MemberOfAnotherKind) _ cells e (λ ds ds_is e1.
    by_bind (ok_or (cells_of ds) BadData) _ cells e1 (λ cs cs_is e2.
    let c = chosen (eqb (length cs) count) (Ok cs) BadData cells e2 in
    subst (AreCells count) (ok_is cs cells c.1) (eqb-true (length cs) count c.0, cells_sound ds cs (ok_or_ok (cells_of ds) BadData cs cs_is))))
cells_tree_sound Base64 count d cells e =
    by_bind (ok_or (as_str d) MemberOfAnotherKind) _ cells e (λ text text_is e1.
    by_bind (ok_or (result_ok (decode_of standard (packed text))) BadData) _ cells e1 (λ bytes bytes_is e2.
    let c = chosen (eqb (length bytes) (4 * count) && list_all is_byte bytes) (Ok (words_of bytes)) BadData cells e2 in
    let b = and_parts (eqb (length bytes) (4 * count)) (list_all is_byte bytes) c.0 in
    subst (AreCells count) (ok_is (words_of bytes) cells c.1) (words_sound bytes count (eqb-true (length bytes) (4 * count) b.0) b.1)))

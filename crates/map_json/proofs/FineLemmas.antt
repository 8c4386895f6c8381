-- Fine trees: their members, what is put in and taken out, and what was read.
use Rattle.std.proofs.Common.{◌≡◌, ℕ, zero, suc, ◌≤◌, max, List, [], ◌∷◌, Option, Some, Ordering, Less, Equal, Greater, nat_cmp, false}
use Rattle.std.proofs.Common.{true≢false, refl, subst, arith}
use Rattle.std.proofs.lemmas.Bool.{or_parts}
use Rattle.std.specs.Cmp.Lexicographic.{slice_cmp}
use Rattle.std.specs.Ordering.{match_ordering}
use Rattle.serde_json.specs.Data.{Num, unsigned, negative, float, Data, null, boolean, number, string, array, object, Items, no_items, item, Members}
use Rattle.serde_json.specs.Data.{no_members, member, depth, items_depth, members_depth}
use Rattle.serde_json.specs.Find.{get_member, is_float}
use Rattle.serde_json.specs.Written.{has_float, items_have_float, members_have_float}
use Rattle.json_members.specs.Members.{without, without_all}
use Rattle.map_model.specs.Readable.{IsBefore, IsReadableNumber, IsReadable, AreReadableItems, AreReadableMembers}
use Rattle.map_json.proofs.Fine.{IsFineNum, IsFine, AreFineItems, AreFineMembers}

-- ---- members

member_at : (o : Ordering) (n : ℕ) (d e : Data) (rest : Option Data) → IsFine n e → ((f : Data) → rest ≡ Some f → IsFine n f)
    → match_ordering o rest (Some e) rest ≡ Some d → IsFine n d
member_at Less n d e rest he later is = later d is
member_at Equal n d e rest he later is = let same : e ≡ d = cc in subst (λ (x : Data). IsFine n x) same he
member_at Greater n d e rest he later is = later d is

pub IsFine-get_member : (n : ℕ) (k : List ℕ) (ms : Members) (d : Data) → AreFineMembers n ms → get_member k ms ≡ Some d → IsFine n d
IsFine-get_member n k no_members d h is = absurd cc
IsFine-get_member n k (member l e ms) d h is = member_at (slice_cmp nat_cmp k l) n d e (get_member k ms) h.2 (λ f g. IsFine-get_member n k ms f h.3 g) is

-- a name stays before the members that are left
before_at : (o : Ordering) (j l : List ℕ) (e : Data) (rest : Members) → slice_cmp nat_cmp j l ≡ Less → IsBefore j rest
    → IsBefore j (match_ordering o (member l e rest) rest (member l e rest))
before_at Less j l e rest first h = (first, h)
before_at Equal j l e rest first h = h
before_at Greater j l e rest first h = (first, h)

pub IsBefore-without : (j k : List ℕ) (ms : Members) → IsBefore j ms → IsBefore j (without k ms)
IsBefore-without j k no_members h = tt
IsBefore-without j k (member l e ms) h = before_at (slice_cmp nat_cmp k l) j l e (without k ms) h.0 (IsBefore-without j k ms h.1)

without_at : (o : Ordering) (n : ℕ) (l : List ℕ) (e : Data) (rest : Members) → AreFineMembers n (member l e rest)
    → AreFineMembers n (match_ordering o (member l e rest) rest (member l e rest))
without_at Less n l e rest h = h
without_at Equal n l e rest h = h.3
without_at Greater n l e rest h = h

pub AreFineMembers-without : (n : ℕ) (k : List ℕ) (ms : Members) → AreFineMembers n ms → AreFineMembers n (without k ms)
AreFineMembers-without n k no_members h = tt
AreFineMembers-without n k (member l e ms) h =
    without_at (slice_cmp nat_cmp k l) n l e (without k ms) (h.0, IsBefore-without l k ms h.1, h.2, AreFineMembers-without n k ms h.3)

pub AreFineMembers-without_all : (n : ℕ) (ks : List (List ℕ)) (ms : Members) → AreFineMembers n ms → AreFineMembers n (without_all ks ms)
AreFineMembers-without_all n [] ms h = h
AreFineMembers-without_all n (k ∷ ks) ms h = AreFineMembers-without_all n ks (without k ms) (AreFineMembers-without n k ms h)

-- ---- what it means

fine_num : (x : Num) → IsFineNum x → is_float x ≡ false
fine_num (unsigned n) h = refl
fine_num (negative z) h = refl
fine_num (float x) h = absurd h

mutual
  pub has_float-fine : (n : ℕ) (d : Data) → IsFine n d → has_float d ≡ false
  has_float-fine n null h = refl
  has_float-fine n (boolean b) h = refl
  has_float-fine n (number x) h = fine_num x h
  has_float-fine n (string s) h = refl
  has_float-fine zero (array ds) h = absurd h
  has_float-fine (suc n) (array ds) h = items_have_float-fine n ds h
  has_float-fine zero (object ms) h = absurd h
  has_float-fine (suc n) (object ms) h = members_have_float-fine n ms h

  pub items_have_float-fine : (n : ℕ) (ds : Items) → AreFineItems n ds → items_have_float ds ≡ false
  items_have_float-fine n no_items h = refl
  items_have_float-fine n (item d ds) h = rw (has_float-fine n d h.0) (items_have_float-fine n ds h.1)

  pub members_have_float-fine : (n : ℕ) (ms : Members) → AreFineMembers n ms → members_have_float ms ≡ false
  members_have_float-fine n no_members h = refl
  members_have_float-fine n (member k d ms) h = rw (has_float-fine n d h.2) (members_have_float-fine n ms h.3)

mutual
  pub depth-fine : (n : ℕ) (d : Data) → IsFine n d → depth d ≤ n
  depth-fine n null h = omega arith
  depth-fine n (boolean b) h = omega arith
  depth-fine n (number x) h = omega arith
  depth-fine n (string s) h = omega arith
  depth-fine zero (array ds) h = absurd h
  depth-fine (suc n) (array ds) h = let e = items_depth-fine n ds h in omega arith
  depth-fine zero (object ms) h = absurd h
  depth-fine (suc n) (object ms) h = let e = members_depth-fine n ms h in omega arith

  items_depth-fine : (n : ℕ) (ds : Items) → AreFineItems n ds → items_depth ds ≤ n
  items_depth-fine n no_items h = omega arith
  items_depth-fine n (item d ds) h = let a = depth-fine n d h.0 in let b = items_depth-fine n ds h.1 in omega arith

  pub members_depth-fine : (n : ℕ) (ms : Members) → AreFineMembers n ms → members_depth ms ≤ n
  members_depth-fine n no_members h = omega arith
  members_depth-fine n (member k d ms) h = let a = depth-fine n d h.2 in let b = members_depth-fine n ms h.3 in omega arith

-- ---- what was read, with no float

num_read : (x : Num) → IsReadableNumber x → is_float x ≡ false → IsFineNum x
num_read (unsigned n) h e = h
num_read (negative z) h e = h
num_read (float x) h e = true≢false e

mutual
  pub IsFine-read : (n : ℕ) (d : Data) → IsReadable d → has_float d ≡ false → depth d ≤ n → IsFine n d
  IsFine-read n null h e le = tt
  IsFine-read n (boolean b) h e le = tt
  IsFine-read n (number x) h e le = num_read x h e
  IsFine-read n (string s) h e le = h
  IsFine-read zero (array ds) h e le = absurd (omega arith)
  IsFine-read (suc n) (array ds) h e le = AreFineItems-read n ds h e (omega arith)
  IsFine-read zero (object ms) h e le = absurd (omega arith)
  IsFine-read (suc n) (object ms) h e le = AreFineMembers-read n ms h e (omega arith)

  AreFineItems-read : (n : ℕ) (ds : Items) → AreReadableItems ds → items_have_float ds ≡ false → items_depth ds ≤ n → AreFineItems n ds
  AreFineItems-read n no_items h e le = tt
  AreFineItems-read n (item d ds) h e le =
      let f = or_parts (has_float d) (items_have_float ds) e in
      (IsFine-read n d h.0 f.0 (omega arith), AreFineItems-read n ds h.1 f.1 (omega arith))

  pub AreFineMembers-read : (n : ℕ) (ms : Members) → AreReadableMembers ms → members_have_float ms ≡ false → members_depth ms ≤ n → AreFineMembers n ms
  AreFineMembers-read n no_members h e le = tt
  AreFineMembers-read n (member k d ms) h e le =
      let f = or_parts (has_float d) (members_have_float ms) e in
      (h.0, h.1, IsFine-read n d h.2 f.0 (omega arith), AreFineMembers-read n ms h.3 f.1 (omega arith))

-- ---- a file can say them

num_readable : (x : Num) → IsFineNum x → IsReadableNumber x
num_readable (unsigned n) h = h
num_readable (negative z) h = h
num_readable (float x) h = absurd h

mutual
  pub IsReadable-fine : (n : ℕ) (d : Data) → IsFine n d → IsReadable d
  IsReadable-fine n null h = tt
  IsReadable-fine n (boolean b) h = tt
  IsReadable-fine n (number x) h = num_readable x h
  IsReadable-fine n (string s) h = h
  IsReadable-fine zero (array ds) h = absurd h
  IsReadable-fine (suc n) (array ds) h = AreReadableItems-fine n ds h
  IsReadable-fine zero (object ms) h = absurd h
  IsReadable-fine (suc n) (object ms) h = AreReadableMembers-fine n ms h

  AreReadableItems-fine : (n : ℕ) (ds : Items) → AreFineItems n ds → AreReadableItems ds
  AreReadableItems-fine n no_items h = tt
  AreReadableItems-fine n (item d ds) h = (IsReadable-fine n d h.0, AreReadableItems-fine n ds h.1)

  pub AreReadableMembers-fine : (n : ℕ) (ms : Members) → AreFineMembers n ms → AreReadableMembers ms
  AreReadableMembers-fine n no_members h = tt
  AreReadableMembers-fine n (member k d ms) h = (h.0, h.1, IsReadable-fine n d h.2, AreReadableMembers-fine n ms h.3)

-- ---- taken out of what was read

read_without_at : (o : Ordering) (l : List ℕ) (e : Data) (rest : Members) → AreReadableMembers (member l e rest)
    → AreReadableMembers (match_ordering o (member l e rest) rest (member l e rest))
read_without_at Less l e rest h = h
read_without_at Equal l e rest h = h.3
read_without_at Greater l e rest h = h

pub AreReadableMembers-without : (k : List ℕ) (ms : Members) → AreReadableMembers ms → AreReadableMembers (without k ms)
AreReadableMembers-without k no_members h = tt
AreReadableMembers-without k (member l e ms) h =
    read_without_at (slice_cmp nat_cmp k l) l e (without k ms) (h.0, IsBefore-without l k ms h.1, h.2, AreReadableMembers-without k ms h.3)

depth_without_at : (o : Ordering) (l : List ℕ) (e : Data) (ms rest : Members) → members_depth rest ≤ members_depth ms
    → members_depth (match_ordering o (member l e rest) rest (member l e rest)) ≤ max (depth e) (members_depth ms)
depth_without_at Less l e ms rest h = omega arith
depth_without_at Equal l e ms rest h = omega arith
depth_without_at Greater l e ms rest h = omega arith

pub members_depth-without : (k : List ℕ) (ms : Members) → members_depth (without k ms) ≤ members_depth ms
members_depth-without k no_members = omega arith
members_depth-without k (member l e ms) = depth_without_at (slice_cmp nat_cmp k l) l e ms (without k ms) (members_depth-without k ms)

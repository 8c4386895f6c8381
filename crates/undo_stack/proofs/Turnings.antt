-- Turns of which a free step goes, and that none goes where no step is free.
use Rattle.std.proofs.Common.{◌≡◌, ℕ, ◌+◌, ◌-◌, ◌<◌, ◌≤◌, List, [], ◌∷◌, Option, Some, None, Bool, true, false, length, min, slice_get, inl, inr, Ok, Err}
use Rattle.std.proofs.Common.{zero, suc, refl, sym, ◌∙◌, ap, subst, arith}
use Rattle.std.proofs.lemmas.List.Edits.{length-remove}
use Rattle.map_model.specs.Document.{DocumentParts}
use Rattle.command_api.specs.Law.{Change, IsLawful}
use Rattle.command_api.specs.Names.{IsSettled, Vanishing, Never, WhenEqual, Free, is_free}
use Rattle.undo_stack.specs.History.{Step, History}
use Rattle.undo_stack.specs.Moving.{positioned, StepsBack, StepsOn, GoesTo}
use Rattle.undo_stack.specs.Calm.{IsGone}
use Rattle.undo_stack.specs.Turning.{IsFreeStep, Drops, TurnsBack, TurnsOn, TurnBy, TurnsTo, Undoes, Redoes, SetsIndex, AreBound, IsSteady}

pub false-true : {X : Type 0} → false ≡ true → X
false-true p = absurd (let bad : false ≡ true = p in let worse : ⊥ = cc in worse)

-- a free command that is obsolete changes nothing
pub settled-free : (v : Vanishing) (b : Bool) (d e : DocumentParts) → is_free v ≡ true → b ≡ true → IsSettled v b d e → e ≡ d
settled-free Never b d e p q h = false-true p
settled-free WhenEqual b d e p q h = false-true p
settled-free Free b d e p q h = h q

pub gone_at : (c : Change) → is_free c.names.vanishing ≡ true → c.obsolete ≡ true → IsLawful c → IsGone c
gone_at c free obsolete law = record {
  free = free;
  redone = λ d fits. settled-free c.names.vanishing c.obsolete d (c.redone d) free obsolete (law.redo d fits);
  undone = λ d fits. settled-free c.names.vanishing c.obsolete d (c.undone d) free obsolete (law.undo d fits);
}

-- ---- where no step is free, none goes
not_free : (o : Option Step) (ss : List Step) (at : ℕ) → o ≡ slice_get ss at → AreBound ss → IsFreeStep o → ⊥
not_free None ss at is steady h = h
not_free (Some s) [] at is steady h = let bad : Some s ≡ None = is in cc
not_free (Some s) (x ∷ ss) zero is steady h =
    let same : s ≡ x = cc in
    let first : is_free s.names.vanishing ≡ false = rw same steady.0 in
    false-true (sym first ∙ h)
not_free (Some s) (x ∷ ss) (suc at) is steady h = not_free (Some s) ss at is steady.1 h

pub Drops-steady : (at : ℕ) (h next n : History) → IsSteady h → Drops at h next n → n ≡ next
Drops-steady at h next n steady (inl same) = same
Drops-steady at h next n steady (inr gone) = absurd (not_free (slice_get h.steps at) h.steps at refl steady gone.0.free)

back_by : (k : ℕ) (h n : History) → IsSteady h → TurnBy TurnsBack k h n → n ≡ positioned (h.position - k) h
back_by zero h n steady t = let at : h.position ≡ h.position - 0 = omega arith in t ∙ ap (λ (i : ℕ). positioned i h) at
back_by (suc k) h n steady t =
    let one : t.0 ≡ positioned (h.position - 1) h = Drops-steady (h.position - 1) h (positioned (h.position - 1) h) t.0 steady t.1 in
    let rest : n ≡ positioned (t.0.position - k) t.0 = back_by k t.0 n (rw one steady) t.2 in
    let at : h.position - 1 - k ≡ h.position - suc k = omega arith in
    rest ∙ ap (λ (m : History). positioned (m.position - k) m) one ∙ ap (λ (i : ℕ). positioned i h) at

on_by : (k : ℕ) (h n : History) → IsSteady h → TurnBy TurnsOn k h n → n ≡ positioned (h.position + k) h
on_by zero h n steady t = let at : h.position ≡ h.position + 0 = omega arith in t ∙ ap (λ (i : ℕ). positioned i h) at
on_by (suc k) h n steady t =
    let one : t.0 ≡ positioned (h.position + 1) h = Drops-steady h.position h (positioned (h.position + 1) h) t.0 steady t.1 in
    let rest : n ≡ positioned (t.0.position + k) t.0 = on_by k t.0 n (rw one steady) t.2 in
    let at : h.position + 1 + k ≡ h.position + suc k = omega arith in
    rest ∙ ap (λ (m : History). positioned (m.position + k) m) one ∙ ap (λ (i : ℕ). positioned i h) at

-- the calls that move are the plain ones where no step is free
pub Undoes-steady : (h : History) (answer : _) (n : History) → IsSteady h → Undoes h answer n → StepsBack h answer n
Undoes-steady h (Ok done) n steady u = record { answered = u.answered; leads = Drops-steady _ h _ n steady u.leads }
Undoes-steady h (Err fault) n steady u = record { answered = u.answered; leads = u.leads }

pub Redoes-steady : (h : History) (answer : _) (n : History) → IsSteady h → Redoes h answer n → StepsOn h answer n
Redoes-steady h (Ok done) n steady u = record { answered = u.answered; leads = Drops-steady _ h _ n steady u.leads }
Redoes-steady h (Err fault) n steady u = record { answered = u.answered; leads = u.leads }

pub TurnsTo-steady : (i : ℕ) (h n : History) → IsSteady h → h.position ≤ length h.steps → TurnsTo i h n → n ≡ positioned (min i (length h.steps)) h
TurnsTo-steady i h n steady within t =
    let back = back_by (h.position - i) h t.between steady t.back in
    let on = on_by (min i (length h.steps) - h.position) t.between n (rw back steady) t.on in
    let at : h.position - (h.position - i) + (min i (length h.steps) - h.position) ≡ min i (length h.steps) = omega (arith, within) in
    on ∙ ap (λ (m : History). positioned (m.position + (min i (length h.steps) - h.position)) m) back ∙ ap (λ (k : ℕ). positioned k h) at

pub SetsIndex-steady : (i : ℕ) (h : History) (answer : _) (n : History) → IsSteady h → h.position ≤ length h.steps → SetsIndex i h answer n
    → GoesTo i h answer n
SetsIndex-steady i h (Ok done) n steady within u = record { answered = u.answered; leads = TurnsTo-steady i h n steady within u.leads }
SetsIndex-steady i h (Err fault) n steady within u = record { answered = u.answered; leads = u.leads }

-- ---- the plain moves are turns of which no step goes
pub turned_back : (k : ℕ) (h : History) → TurnBy TurnsBack k h (positioned (h.position - k) h)
turned_back zero h = let at : h.position - 0 ≡ h.position = omega arith in ap (λ (i : ℕ). positioned i h) at
turned_back (suc k) h =
    let m = positioned (h.position - 1) h in
    let at : h.position - 1 - k ≡ h.position - suc k = omega arith in
    (m, inl refl, subst (λ (i : ℕ). TurnBy TurnsBack k m (positioned i h)) at (turned_back k m))

pub turned_on : (k : ℕ) (h : History) → TurnBy TurnsOn k h (positioned (h.position + k) h)
turned_on zero h = let at : h.position + 0 ≡ h.position = omega arith in ap (λ (i : ℕ). positioned i h) at
turned_on (suc k) h =
    let m = positioned (h.position + 1) h in
    let at : h.position + 1 + k ≡ h.position + suc k = omega arith in
    (m, inl refl, subst (λ (i : ℕ). TurnBy TurnsOn k m (positioned i h)) at (turned_on k m))

pub turned_to : (i : ℕ) (h n : History) → h.position ≤ length h.steps → n ≡ positioned (min i (length h.steps)) h → TurnsTo i h n
turned_to i h n within is =
    let m = positioned (h.position - (h.position - i)) h in
    let k = min i (length h.steps) - h.position in
    let at : h.position - (h.position - i) + k ≡ min i (length h.steps) = omega (arith, within) in
    record {
      between = m;
      back = turned_back (h.position - i) h;
      on = rw is (subst (λ (j : ℕ). TurnBy TurnsOn k m (positioned j h)) at (turned_on k m));
    }

-- turns in one direction
pub turned_only_back : (i : ℕ) (h n : History) → i ≤ h.position → TurnBy TurnsBack (h.position - i) h n → TurnsTo i h n
turned_only_back i h n below back =
    let none : 0 ≡ min i (length h.steps) - h.position = omega (arith, below) in
    record { between = n; back = back; on = subst (λ (k : ℕ). TurnBy TurnsOn k n n) none refl }

pub turned_only_on : (i : ℕ) (h n : History) → h.position ≤ i → TurnBy TurnsOn (min i (length h.steps) - h.position) h n → TurnsTo i h n
turned_only_on i h n above on =
    let none : 0 ≡ h.position - i = omega (arith, above) in
    record { between = h; back = subst (λ (k : ℕ). TurnBy TurnsBack k h h) none refl; on = on }

-- one more turn
pub turned_more : (R : History → History → Type 0) (k : ℕ) (h m n : History) → TurnBy R k h m → R m n → TurnBy R (k + 1) h n
turned_more R zero h m n t r = (n, rw t at r, refl)
turned_more R (suc k) h m n t r =
    let one_more : suc (k + 1) ≡ suc k + 1 = omega arith in
    let all : TurnBy R (suc (k + 1)) h n = (t.0, t.1, turned_more R k t.0 m n t.2 r) in
    subst (λ (i : ℕ). TurnBy R i h n) one_more all

-- where a turn leads to
pub position-TurnsBack : (h n : History) → TurnsBack h n → n.position ≡ h.position - 1
position-TurnsBack h n (inl same) = ap (λ (m : History). m.position) same
position-TurnsBack h n (inr gone) = ap (λ (m : History). m.position) gone.1

pub room-TurnsOn : (h n : History) (k : ℕ) → 0 < k → h.position + k ≤ length h.steps → TurnsOn h n → n.position + (k - 1) ≤ length n.steps
room-TurnsOn h n k some room (inl same) = rw same (omega (arith, some, room))
room-TurnsOn h n k some room (inr gone) =
    let inside : h.position < length h.steps = omega (arith, some, room) in
    let less = length-remove h.steps h.position inside in
    rw gone.1 (omega (arith, some, room, less))

-- steps on are left only where none went back
pub room_back : (back on : ℕ) (h n : History) → TurnBy TurnsBack back h n → n.position ≤ length n.steps → (back ≡ 0 → h.position + on ≤ length h.steps)
    → (0 < back → on ≡ 0)
    → n.position + on ≤ length n.steps
room_back zero on h n t within room none = rw t (room refl)
room_back (suc back) on h n t within room none = let no : on ≡ 0 = none (omega arith) in omega (arith, no, within)

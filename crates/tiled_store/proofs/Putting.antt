-- What is put by a store that sets maps aside.
use Rattle.std.proofs.Common.{◌≡◌, ℕ, List, Bool, true, false, true≢false, Result, Ok, Err, OnOk, sym}
use Rattle.map_store.specs.Files.{StoreParts}
use Rattle.tiled_store.specs.Stored.{IsSourceBy, IsSourceOf, PutsBy, PutsFor}

pub puts_by : (sets : Bool) (name source bytes file : List ℕ) → sets ≡ true → PutsFor name source bytes file → PutsBy sets name source bytes file
puts_by true name source bytes file has puts = puts
puts_by false name source bytes file has puts = absurd (true≢false (sym has))

pub source_by : (sets : Bool) (name : List ℕ) (old : StoreParts) (source : List ℕ) → sets ≡ true → IsSourceOf name old source
    → IsSourceBy sets name old source
source_by true name old source has is = is
source_by false name old source has is = absurd (true≢false (sym has))

pub on_ok : {T E P Q : Type 0} (r : Result T E) → OnOk r P → (P → Q) → OnOk r Q
on_ok (Ok t) kept then = then kept
on_ok (Err e) kept then = tt

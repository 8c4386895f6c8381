use Rattle.std.proofs.Common.{rules, ◌<◌, ℕ, List, length, IfOk, Result, Ok, Err, Option, Some, inl, inr, refl}
use Rattle.map_faults.specs.Faults.{TellsFault, TellsNotGiven, TellsOfText}
use Rattle.map_faults.specs.declared.faults.ToldFault.{ToldFault}
use Rattle.tiled_maps.specs.declared.fault.Fault.TheVariants.{NotJson}
use Rattle.tiled_maps.specs.declared.text.TheConstants.{LONGEST}
use Rattle.tiled_files.specs.Opening.{Opens}
use Rattle.tiled_files.specs.declared.fault.FileFault.TheVariants.{Aside}
use Rattle.tiled_store.specs.Stored.{IsRefused}
use Rattle.map_faults.proofs.faults.map_fault.Goals as goal

-- what is told of a file that a store refuses
refused : {E : Type 0} → (bytes : List ℕ) (told : Result (Option ToldFault) E) → IsRefused bytes → IfOk told TellsNotGiven → IfOk told (TellsFault bytes)
refused bytes (Ok told) why not = inr (why, not)
refused bytes (Err e) why not = tt

-- the text would be too long
pub returns-in-Ok-Some : goal.returns-in-Ok-Some
returns-in-Ok-Some c =
    let text = c.in-Ok-Some.text in
    let own : Opens c.args.bytes.now (Ok (Some text)) = search rules in
    let long : LONGEST < length text.items = search rules in
    refused c.args.bytes.now c.not_aside.result (inr (text, own, long)) c.not_aside.ensures

-- what is told of a file that is no JSON
unset : {E : Type 0} → (bytes : List ℕ) (told : Result (Option ToldFault) E) → Opens bytes (Err (Aside NotJson)) → IfOk told (TellsOfText bytes)
    → IfOk told (TellsFault bytes)
unset bytes (Ok told) none tells = inl (bytes, inr (refl, none), tells)
unset bytes (Err e) none tells = tt

pub returns-in-Err-Aside-NotJson : goal.returns-in-Err-Aside-NotJson
returns-in-Err-Aside-NotJson c =
    let text = c.fault_of_text-in-Err-Aside-NotJson in
    let none : Opens c.args.bytes.now (Err (Aside NotJson)) = search rules in
    unset c.args.bytes.now text.result none text.ensures

-- Documents that are opened.
use Rattle.std.proofs.Common.{◌≡◌, ℕ, List, None, Some, Ok, Err, IsTrue, refl, inl, inr}
use Rattle.std.specs.FinMap.{get}
use Rattle.map_model.specs.Document.{document_of}
use Rattle.map_model.specs.declared.parts.MapParts.{MapParts}
use Rattle.map_json.specs.Maps.{Says}
use Rattle.map_values.specs.declared.fault.MapFault.{MapFault}
use Rattle.map_values.specs.declared.fault.MapFault.TheVariants.{Memory, Refused}
use Rattle.map_store.specs.Files.{IsCalled, StoreParts}
use Rattle.undo_stack.specs.History.{new_history}
use Rattle.undo_group.specs.Groups.{history_named}
use Rattle.session.specs.declared.reply.Reply.{Reply}
use Rattle.session.specs.declared.reply.Reply.TheVariants as replies
use Rattle.document_lines.specs.Acts.{FilesStay, Loads, NewName, Opens, OrNoMemory, OrNoMemoryForFile, OrStoreFails}
use Rattle.document_lines.specs.Machine.{Machine}
use Rattle.map_values.specs.Refusals.{refusal_of_map}

-- a file whose bytes say no map
pub refused-NewName : (name file bytes : List ℕ) (old : Machine) (before after : StoreParts) (fault : MapFault) → history_named name old.group.documents ≡ None
    → (IsTrue before.honest → Some bytes ≡ get before.files file) → Says bytes (Err fault) → IsCalled FilesStay before after
    → NewName name (OrStoreFails FilesStay (OrNoMemoryForFile (Loads name file))) before after old (Some (replies.Refused (refusal_of_map fault))) old
refused-NewName name file bytes old before after Memory free is says called = rw free (inl (inr (called, (refl, refl))))
refused-NewName name file bytes old before after (Refused refusal) free is says called =
    rw free (inl (inl (called, Some bytes, is, inr (refusal, says, (refl, refl)))))

-- a file whose bytes say a map
pub opened-NewName : (name file bytes : List ℕ) (m : MapParts) (old new : Machine) (before after : StoreParts) (reply : Reply)
    → history_named name old.group.documents ≡ None
    → (IsTrue before.honest → Some bytes ≡ get before.files file) → Says bytes (Ok m) → IsCalled FilesStay before after
    → OrNoMemory (Opens name (new_history (document_of m) old.limit)) old (Some reply) new
    → NewName name (OrStoreFails FilesStay (OrNoMemoryForFile (Loads name file))) before after old (Some reply) new
opened-NewName name file bytes m old new before after reply free is says called (inl opens) = rw free (inl (inl (called, Some bytes, is, inl (m, says, opens))))
opened-NewName name file bytes m old new before after reply free is says called (inr lacks) = rw free (inl (inr (called, lacks)))

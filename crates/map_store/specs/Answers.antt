-- What a folder's store answers where a file could not be loaded.
use Rattle.std.specs.Prelude.{◌≡◌, ◌≢◌, ◌⊎◌}
use Rattle.std.specs.IoError.{error_kind}
use Rattle.std.specs.declared.io.ErrorKind.TheVariants.{NotFound}
use Rattle.map_store.specs.declared.folder_store.LoadError.{LoadError}
use Rattle.map_store.specs.declared.folder_store.LoadError.TheVariants.{Open, Read, NotAFile, TooLong, Memory}
use Rattle.refusals.specs.declared.store_fault.StoreFault.{StoreFault}
use Rattle.refusals.specs.declared.store_fault.StoreFault.TheVariants as faults

-- a file is missing only where the system answered so as it was opened; one that is too long, is no file or can't be read is a fault of the device
abbrev pub IsAnswered : LoadError → StoreFault → Type 0
IsAnswered (Open reason) fault =
    ((error_kind reason.error ≡ NotFound) × (fault ≡ faults.Missing)) ⊎ ((error_kind reason.error ≢ NotFound) × (fault ≡ faults.Device))
IsAnswered (Read reason) fault = fault ≡ faults.Device
IsAnswered NotAFile fault = fault ≡ faults.Device
IsAnswered TooLong fault = fault ≡ faults.Device
IsAnswered Memory fault = fault ≡ faults.Memory

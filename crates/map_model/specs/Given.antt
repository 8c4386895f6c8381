-- Settings that a line gives.
use Rattle.map_model.specs.declared.parts.PropValue.{PropValue}
use Rattle.map_model.specs.declared.parts.PropValue.TheVariants as values
use Rattle.map_model.specs.declared.setting.GivenSetting.{GivenSetting}
use Rattle.map_model.specs.declared.setting.OwnedScalar.{OwnedScalar}
use Rattle.map_model.specs.declared.setting.OwnedScalar.TheVariants as owned
use Rattle.map_model.specs.declared.setting.Setting.{Setting}
use Rattle.map_model.specs.Properties.{setting_with}

-- the value that was given
abbrev pub owned_value : OwnedScalar → PropValue
owned_value (owned.Text text) = values.Text text
owned_value (owned.Whole number) = values.Whole number
owned_value (owned.Truth truth) = values.Truth truth

-- the type and the value that were given
abbrev pub given_setting : GivenSetting → Setting
given_setting given = setting_with given.kind (owned_value given.value)

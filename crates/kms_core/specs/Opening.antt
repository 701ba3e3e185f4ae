-- The data encryption key of an encrypted one.
use Rattle.std.specs.Prelude.{List, Option, option_map}
use Rattle.hk_base.specs.declared.names.Dek.{Dek}
use Rattle.hk_base.specs.declared.names.Edek.{Edek}
use Rattle.eek_seal.specs.Seal.{unseal}
use Rattle.key_rows.specs.declared.rows.KeyRow.{KeyRow}
use Rattle.key_rows.specs.Table.{material_of}

-- it is opened under the material of its version, if the keys have that version
abbrev pub unseals : List KeyRow → Edek → Option Dek
unseals rows edek = option_map (λ material. unseal material edek.iv edek.sealed) (material_of rows edek.version)

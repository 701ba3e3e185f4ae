-- Words of the random source as bytes, and the keys drawn from them.
use Rattle.std.specs.Prelude.{ℕ, zero, suc, ◌+◌, ◌*◌, ◌/◌, List, [], ◌∷◌, ◌++◌, length, Option, None, Some}
use Rattle.std.specs.Int.{w32, to_le_bytes}
use Rattle.hk_base.specs.declared.names.Dek.{Dek}
use Rattle.hk_base.specs.declared.names.Edek.{Edek}
use Rattle.hk_base.specs.declared.names.VersionName.{VersionName}
use Rattle.eek_seal.specs.Seal.{seal}
use Rattle.eek_seal.specs.Tickets.{SealedKey}
use Rattle.eek_seal.specs.declared.tickets.Ticket.{Ticket}

-- the bytes of n words from this place of the stream on; of each word the least significant byte comes first
abbrev pub drawn : (ℕ → ℕ) → ℕ → ℕ → List ℕ
drawn words place zero = []
drawn words place (suc n) = drawn words place n ++ to_le_bytes w32 (words (place + n))

-- the given material, or else drawn material: a word gives 32 bits
abbrev pub material_for : (ℕ → ℕ) → ℕ → Option (List ℕ) → List ℕ
material_for words bits None = drawn words 0 (bits / 32)
material_for words bits (Some material) = material

-- the number of words for it
abbrev pub words_for : ℕ → Option (List ℕ) → ℕ
words_for bits None = bits / 32
words_for bits (Some material) = 0

-- an initialization vector takes four words
unfoldable pub drawn_iv : (ℕ → ℕ) → ℕ → List ℕ
drawn_iv words place = drawn words place 4

-- a data encryption key of len bytes takes the words after its initialization vector
abbrev pub drawn_dek : (ℕ → ℕ) → ℕ → ℕ → Dek
drawn_dek words place len = drawn words (place + 4) (len / 4)

-- a data encryption key drawn at this place of the stream, with the length of the material that seals it
abbrev pub drawn_edek : VersionName → Dek → (ℕ → ℕ) → ℕ → Edek
drawn_edek version material words place =
    record { version = version; iv = drawn_iv words place; sealed = seal material (drawn_iv words place) (drawn_dek words place (length material)) }

-- the number of words that the draw of a data encryption key of len bytes takes
abbrev pub words_of_draw : ℕ → ℕ
words_of_draw len = 4 + len / 4

-- the place where the draw of this number, from 0, begins: each draw comes after the one before
abbrev pub place_of_draw : ℕ → ℕ → ℕ
place_of_draw len number = number * words_of_draw len

-- a data encryption key drawn and sealed with a ticket
abbrev pub sealed_with : Ticket → (ℕ → ℕ) → SealedKey
sealed_with ticket words =
    record {
      opening = ticket.opening;
      birth = ticket.birth;
      version = ticket.version;
      iv = drawn_iv words 0;
      dek = drawn_dek words 0 (length ticket.material);
      sealed = seal ticket.material (drawn_iv words 0) (drawn_dek words 0 (length ticket.material));
    }

-- n data encryption keys, drawn one after another
abbrev pub drawn_edeks : VersionName → Dek → (ℕ → ℕ) → ℕ → List Edek
drawn_edeks version material words zero = []
drawn_edeks version material words (suc n) =
    drawn_edeks version material words n ++ drawn_edek version material words (place_of_draw (length material) n) ∷ []

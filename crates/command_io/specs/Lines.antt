-- The lines of a text.
use Rattle.std.specs.Prelude.{ℕ, not, Bool, List, [], ◌∷◌, ◌++◌}
use Rattle.std.specs.List.{list_all, flat_map, slice_split}
pub use Rattle.prop_text.specs.Properties.{is_lf}
use Rattle.command_io.specs.declared.lines.LineEnd.{LineEnd}
use Rattle.command_io.specs.declared.lines.LineEnd.TheVariants.{Line, End, TooLong, Past, Fault, NoMemory}

-- the lines of a text are separated by LF; the bytes after the last LF are one too
abbrev pub lines_of : List ℕ → List (List ℕ)
lines_of text = slice_split is_lf text

-- a line has no LF
abbrev pub is_line : List ℕ → Bool
is_line bytes = list_all (λ b. not (is_lf b)) bytes

-- the text of lines that are each ended by LF
abbrev pub text_of : List (List ℕ) → List ℕ
text_of lines = flat_map (λ line. line ++ 10 ∷ []) lines

-- what was used of the text for a line
abbrev pub line_used : LineEnd → List ℕ → List ℕ
line_used Line line = line ++ 10 ∷ []
line_used End line = line
line_used TooLong line = line
line_used Past line = line
line_used Fault line = line
line_used NoMemory line = line

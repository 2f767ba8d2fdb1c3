-- Document 01's print-out. Definitions only.
use Rattle.std.specs.Prelude.{ℕ, zero, suc, ◌+◌, ◌*◌, Bool, true, false, cond, ◌&&◌, List, [], ◌∷◌, ◌++◌, ltb, get_or, Float}
use Rattle.std.specs.Float.{nan, inf, fin}
use Rattle.layout.specs.Layout.{reals_per_vertex, vertex_distance, alive_flag}
use Rattle.windows.specs.Windows.{flags_at, has_flag}
use Rattle.text_out.specs.Text.{decimal}
use Rattle.thousandths.specs.Thousandths.{thousandths_of}
use Rattle.computed.specs.declared.Field.{Field}
use Rattle.computed.specs.declared.Computed.{Computed}
use Rattle.computed.specs.declared.Computed.TheVariants as computed

-- how many of the first n windows live, by the windows' words
unfoldable pub is_live : List ℕ → ℕ → Bool
is_live words k = has_flag (flags_at words k) alive_flag

unfoldable pub live_count : List ℕ → ℕ → ℕ
unfolding is_live
live_count words zero = 0
live_count words (suc n) = live_count words n + cond (is_live words n) 1 0

-- ---- the words, in ASCII

-- "far"
abbrev pub far_text : List ℕ
far_text = 102 ∷ 97 ∷ 114 ∷ []

-- "nan"
abbrev pub nan_text : List ℕ
nan_text = 110 ∷ 97 ∷ 110 ∷ []

-- "-"
abbrev pub minus_text : List ℕ
minus_text = 45 ∷ []

-- "corner "
abbrev pub corner_text : List ℕ
corner_text = 99 ∷ 111 ∷ 114 ∷ 110 ∷ 101 ∷ 114 ∷ 32 ∷ []

-- " "
abbrev pub space_text : List ℕ
space_text = 32 ∷ []

-- "\n"
abbrev pub end_of_line : List ℕ
end_of_line = 10 ∷ []

-- "edges "
abbrev pub edges_text : List ℕ
edges_text = 101 ∷ 100 ∷ 103 ∷ 101 ∷ 115 ∷ 32 ∷ []

-- "windows "
abbrev pub windows_text : List ℕ
windows_text = 119 ∷ 105 ∷ 110 ∷ 100 ∷ 111 ∷ 119 ∷ 115 ∷ 32 ∷ []

-- " live "
abbrev pub live_text : List ℕ
live_text = 32 ∷ 108 ∷ 105 ∷ 118 ∷ 101 ∷ 32 ∷ []

-- " steps "
abbrev pub steps_text : List ℕ
steps_text = 32 ∷ 115 ∷ 116 ∷ 101 ∷ 112 ∷ 115 ∷ 32 ∷ []

-- "end\n"
abbrev pub end_text : List ℕ
end_text = 101 ∷ 110 ∷ 100 ∷ 10 ∷ []

-- "refused "
abbrev pub refused_text : List ℕ
refused_text = 114 ∷ 101 ∷ 102 ∷ 117 ∷ 115 ∷ 101 ∷ 100 ∷ 32 ∷ []

-- ---- the lines

-- a number of thousandths of that size, below zero or not
unfoldable pub signed : Bool → ℕ → List ℕ
signed minus t = cond (minus && ltb 0 t) minus_text [] ++ decimal t

-- a distance in thousandths, or `far` where it is infinite; no distance, a NaN or minus infinity, is `nan`
unfoldable pub distance_text : Float → List ℕ
unfolding signed
distance_text nan = nan_text
distance_text (inf false) = far_text
distance_text (inf true) = nan_text
distance_text (fin s m e) = signed s (thousandths_of s (fin s m e))

unfoldable pub count_text : List ℕ → ℕ → List ℕ
count_text word n = word ++ decimal n

unfoldable pub corner_line : ℕ → Float → List ℕ
unfolding count_text distance_text
corner_line k x = count_text corner_text k ++ space_text ++ distance_text x ++ end_of_line

-- a line for each of n vertices
unfoldable pub corner_lines : List Float → ℕ → List ℕ
unfolding corner_line
corner_lines vertex zero = []
corner_lines vertex (suc n) = corner_lines vertex n ++ corner_line n (get_or vertex (reals_per_vertex * n + vertex_distance) nan)

unfoldable pub edges_line : ℕ → List ℕ
unfolding count_text
edges_line edges = count_text edges_text edges ++ end_of_line

unfoldable pub windows_line : ℕ → ℕ → ℕ → List ℕ
unfolding count_text
windows_line windows live steps = count_text windows_text windows ++ count_text live_text live ++ count_text steps_text steps ++ end_of_line

unfoldable pub refused_line : ℕ → List ℕ
unfolding count_text
refused_line number = count_text refused_text number ++ end_of_line

unfoldable pub field_text : Field → ℕ → List Float → List ℕ
unfolding edges_line windows_line corner_lines
field_text f live vertex = edges_line f.edges ++ windows_line f.windows live f.steps ++ corner_lines vertex f.vertices ++ end_text

unfoldable pub text_of : Computed → ℕ → List Float → List ℕ
unfolding field_text refused_line
text_of (computed.Refused number) live vertex = refused_line number
text_of (computed.Field f) live vertex = field_text f live vertex

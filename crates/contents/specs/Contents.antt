-- The window buffer's words and reals and the heads of the chains, as a function of all windows made and the live windows of each edge. Definitions only.
use Rattle.std.specs.Prelude.{ℕ, zero, suc, ◌+◌, ◌*◌, ◌-◌, ◌/◌, ◌%◌, cond, List, [], ◌∷◌, ◌++◌, eqb, length, set, replicate, Float}
use Rattle.layout.specs.Layout.{words_per_edge, edge_head, edge_scratch}
use Rattle.float64.specs.Scalar.{zero64}
use Rattle.nat_laws.specs.Lists.{list_of}
use Rattle.windows.specs.declared.WindowRecord.{WindowRecord}
use Rattle.windows.specs.Windows.{is_line, reals_of, flags_of}
use Rattle.chains.specs.Chains.{first_link}
use Rattle.trim_model.specs.Windows.{Window}
use Rattle.live_windows.specs.Live.{nums}

-- the link of the number that follows i in a list; 0 where none does
unfoldable pub link_after : ℕ → List ℕ → ℕ
link_after i [] = 0
link_after i (j ∷ js) = cond (eqb i j) (first_link js) (link_after i js)

module _ (live : ℕ → List Window) where
  -- the four words of window i; a dead one keeps the link that it died with, which is none
  abbrev pub four_words : ℕ → WindowRecord → List ℕ
  four_words i x =
      x.edge.0
      ∷ x.carried.into.0
      ∷ flags_of (is_line x.win.src) x.alive x.carried.queued
      ∷ cond x.alive (link_after i (nums (live x.edge.0))) x.link
      ∷ []

  -- of all windows, the first of which is number i
  unfoldable pub words_from : ℕ → List WindowRecord → List ℕ
  words_from i [] = []
  words_from i (x ∷ wins) = four_words i x ++ words_from (suc i) wins

  -- the heads of the chains, and in a slice of n words of edges nothing else
  abbrev pub heads_in : ℕ → List ℕ
  heads_in n = list_of n (λ p. cond (eqb (p % words_per_edge) edge_head) (first_link (nums (live (p / words_per_edge)))) 0)

-- the six reals of a window, and of all
abbrev pub six_reals : WindowRecord → List Float
six_reals x = x.win.b0 ∷ x.win.b1 ∷ x.win.low ∷ reals_of x.win.src

unfoldable pub reals_from : List WindowRecord → List Float
reals_from [] = []
reals_from (x ∷ wins) = six_reals x ++ reals_from wins

-- n elements: these, and zeros behind
abbrev pub padded : {A : Type 0} → A → ℕ → List A → List A
padded z n l = l ++ replicate (n - length l) z

abbrev pub words_of : ℕ → List WindowRecord → (ℕ → List Window) → List ℕ
words_of n wins live = padded 0 n (words_from live 0 wins)

abbrev pub reals_of_all : ℕ → List WindowRecord → List Float
reals_of_all n wins = padded zero64 n (reals_from wins)

-- the scratch word of the first n edges zeroed
unfoldable pub forgotten : ℕ → List ℕ → List ℕ
forgotten zero edges = edges
forgotten (suc n) edges = set (forgotten n edges) (words_per_edge * n + edge_scratch) 0

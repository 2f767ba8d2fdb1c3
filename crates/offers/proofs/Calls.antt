-- The ways that an offer can go. Assumes nothing.
use Prim.Native.Nat.{ℕ, ◌≤◌, ◌<◌}
use native.Mathlib.Omega.{arith}
use mathlib.Core.List.{List}
use mathlib.Core.Logic.{⊎_elim}
use mathlib.Core.Path.{◌≡◌, refl, sym, subst}
use lib.ListN.{length}
use lib.Ieee.{Float}
use Rattle.std.specs.declared.option.Option.{Option}
use Rattle.std.specs.declared.option.Option.TheVariants.{Some, None}
use Rattle.std.specs.declared.result.Result.{Result}
use Rattle.std.specs.declared.result.Result.TheVariants.{Ok}
use Rattle.layout.specs.Layout.{words_per_edge}
use Rattle.buffers.specs.Slots.{slots_of}
use Rattle.buffers.specs.declared.Lack.{Lack}
use Rattle.windows.specs.declared.Edge.{Edge}
use Rattle.windows.specs.declared.NewWindow.{NewWindow}
use Rattle.windows.specs.Windows.{capacity_of}
use Rattle.mesh_readers.specs.Readers.{trim_edge_at}
use Rattle.trim.specs.of_cut_lists.Buffers.{Cuts}
use Rattle.trim.specs.of_trim_split.declared.Counts.{Counts}
use Rattle.trim.specs.of_trim_split.Running.{Ready}
use Rattle.trim.specs.Buffers.{Slices}
use Rattle.trim.specs.Adding.{snapshot_at, added_end_in, AddsTo}
use Rattle.offers.specs.declared.Offered.{Offered}
use Rattle.offers.specs.Offers.{OffersTo}
use Rattle.offers.proofs.Offers.{offers_none, offers_one}

-- an edge that was read
pub ready_read : (edges words : List ℕ) (reals : List Float) (ew : List ℕ) (er : List Float) (e made : ℕ) (edge : Edge) → edge ≡ trim_edge_at ew er e → Ready e made 0 edges words reals → Ready edge.id.0 made 0 edges words reals
ready_read edges words reals ew er e made edge h r = subst (λ (x : Edge). Ready x.id.0 made 0 edges words reals) (sym h) r

pub adds_read : (limit : Float) (vw ew : List ℕ) (er : List Float) (e : ℕ) (edge : Edge) → edge ≡ trim_edge_at ew er e → (w : NewWindow) (counts : Counts) (b : Slices) (c : Cuts) (r : Result Counts Lack) (b' : Slices) (c' : Cuts)
    → AddsTo limit vw edge w counts b c r b' c' → AddsTo limit vw (trim_edge_at ew er e) w counts b c r b' c'
adds_read limit vw ew er e edge h w counts b c r b' c' a = subst (λ (x : Edge). AddsTo limit vw x w counts b c r b' c') h a

module _ (limit : Float) (vw : List ℕ) (er : List Float) (counts : Counts) (b : Slices) (c : Cuts) (o : Option Offered) where
  abbrev windows : ℕ
  windows = capacity_of (length b.words) (length b.reals)

  pub offer_nothing : o ≡ None → counts.made ≤ windows → OffersTo limit vw er o counts b c (Ok counts) b c
  offer_nothing h fits =
      subst (λ (y : Option Offered). OffersTo limit vw er y counts b c (Ok counts) b c) (sym h)
      (record {
        bounded = fits;
        offers = λ mesh there. offers_none (length c.pts) windows limit vw mesh (snapshot_at counts b);
        skips = λ none. record { answer = refl; slices = refl; cuts = refl };
      })

  module _ (x : Offered) (h : o ≡ Some x) where
    pub offer_missing : slots_of (length b.edges) words_per_edge ≤ x.edge.0 → counts.made ≤ windows → OffersTo limit vw er o counts b c (Ok counts) b c
    offer_missing far fits =
        subst (λ (y : Option Offered). OffersTo limit vw er y counts b c (Ok counts) b c) (sym h)
        (record {
          bounded = fits;
          offers = λ mesh there. absurd (let z : ⊥ = omega (arith, far, there.0) in z);
          skips = λ past. record { answer = refl; slices = refl; cuts = refl };
        })

    pub offer_added : x.edge.0 < slots_of (length b.edges) words_per_edge → (r : Result Counts Lack) (b' : Slices) (c' : Cuts) → AddsTo limit vw (trim_edge_at b.edges er x.edge.0) x.window counts b c r b' c' → OffersTo limit vw er o counts b c r b' c'
    offer_added near r b' c' a =
        subst (λ (y : Option Offered). OffersTo limit vw er y counts b c r b' c') (sym h)
        (record {
          bounded = a.bounded;
          offers = λ mesh there. offers_one (length c.pts) windows limit vw mesh (trim_edge_at b.edges er x.edge.0) x.window there.1 (snapshot_at counts b) (added_end_in r b') a.adds;
          skips = ⊎_elim (λ far. absurd (let z : ⊥ = omega (arith, near, far) in z)) a.skips;
        })

-- The entries of a job's pieces name faces of the mesh and pieces of the job, and their links lead to entries: job_entries; link_below_lem, piece_below, first_there, last_there. Assumes nothing.
use Prim.Native.Nat.{ℕ, zero, suc, ◌+◌, ◌*◌, ◌/◌, ◌≤◌, ◌<◌}
use native.Mathlib.Omega.{arith}
use mathlib.Core.Bool.{Bool, cond}
use mathlib.Core.List.{List, [], ◌∷◌, ◌++◌}
use mathlib.Core.Path.{◌≡◌, refl, sym, subst}
use lib.Dec.{eqb}
use lib.ListN.{length, get_or}
use lib.Ieee.{Float}
use Rattle.vec3.specs.declared.Vec3.{Vec3}
use Rattle.work_laws.specs.of_better.Claim.{All}
use Rattle.job_checks.specs.Sound.{ValidTriangles}
use Rattle.topology.specs.Edges.{no_face}
use Rattle.work_laws.proofs.laws_of_trim_model.Ranks.{by_cases}
use Rattle.work_laws.proofs.laws_of_trim_model.Lists.{all_map, all_append}
use Rattle.chains.specs.Chains.{first_link}
use Rattle.work_laws.specs.of_source_windows.declared.Normal.TheVariants.{Left, Right}
use Rattle.work_laws.specs.of_source_offers.Offering.{segment_offer, point_offer}
use Rattle.work_laws.specs.of_carriers.Carrier.{carrier_of}
use Rattle.field_model.proofs.laws_of_offers.Each.{each_all}
use Rattle.field_model.specs.of_face_entries.declared.Part.{Part}
use Rattle.field_model.specs.of_face_entries.declared.Part.TheVariants.{EndA, EndB}
use Rattle.field_model.specs.of_face_entries.Entries.{FaceEntry, entry_numbers_from, numbers_of, final_link, entry_words_from}
use Rattle.field_model.proofs.laws_of_face_entries.Numbers.{Numbered, each_numbered, numbers_below, final_in}
use Rattle.field_model.specs.of_piece_ends.Ends.{end_point, first_of_bits}
use Rattle.work_laws.specs.of_point_wedge.Wedge.{bounds_in}
use Rattle.work_laws.specs.of_source_inserts.declared.Insert.{Insert}
use Rattle.work_laws.specs.of_source_inserts.declared.Insert.TheVariants.{Entry, Offer}
use Rattle.work_laws.specs.of_source_inserts.Inserts.{carrier_inserts, point_inserts, segment_inserts, end_inserts, whole_inserts, piece_inserts, job_inserts}
use Rattle.work_laws.proofs.laws_of_source_inserts.Each.{job_all}
use Rattle.work_laws.specs.of_insertion.Insertion.{entries_in}

-- an entry of one of the first n faces, and of one of the first n pieces
abbrev OfFace : ℕ → Insert → Type 0
OfFace n (Entry f x) = f.0 < n
OfFace n (Offer o) = Unit {0}

abbrev OfPiece : ℕ → Insert → Type 0
OfPiece n (Entry f x) = x.piece < n
OfPiece n (Offer o) = Unit {0}

module _ (v : List Float) (triangles kinds faces : List ℕ) (coords : List Float) (n : ℕ) where
  abbrev Fine : List Insert → Type 0
  Fine = All (OfPiece n)

  point_of : (f : ℕ) (p : Vec3) (piece : ℕ) (part : Part) → piece < n → Fine (point_inserts v triangles kinds faces coords f p piece part)
  unfolding point_inserts carrier_inserts
  point_of f p piece part l =
      let carriers : List ℕ = carrier_of v triangles f p in
      each_all (OfPiece n) (λ (j : ℕ). carrier_inserts v triangles kinds faces coords p piece part carriers (get_or carriers j no_face)) (length carriers)
      (λ j q. (l, each_all (OfPiece n) (λ (k : ℕ). Offer (point_offer v triangles (get_or carriers j no_face) k p (bounds_in v triangles kinds faces coords (get_or carriers j no_face) k p carriers)) ∷ []) 3 (λ k r. (tt, tt))))

  segment_of : (f : ℕ) (a b : Vec3) (piece : ℕ) → piece < n → Fine (segment_inserts v triangles kinds faces coords f a b piece)
  unfolding segment_inserts
  segment_of f a b piece l = (l, each_all (OfPiece n) (λ (k : ℕ). Offer (segment_offer v triangles f k a b Left) ∷ (Offer (segment_offer v triangles f k a b Right) ∷ [])) 3 (λ k r. (tt, (tt, tt))))

  end_of : (i e : ℕ) (part : Part) → i < n → Fine (end_inserts v triangles kinds faces coords i e part)
  unfolding end_inserts
  end_of i e part l = by_cases (λ (b : Bool). Fine (cond b (point_inserts v triangles kinds faces coords (get_or faces i 0) (end_point coords e) i part) [])) (first_of_bits kinds coords e) (λ y. point_of (get_or faces i 0) (end_point coords e) i part l) (λ y. tt)

  whole_of : (i : ℕ) → i < n → Fine (whole_inserts v triangles kinds faces coords i)
  unfolding whole_inserts
  whole_of i l =
      by_cases (λ (b : Bool). Fine (cond b [] (segment_inserts v triangles kinds faces coords (get_or faces i 0) (end_point coords (2 * i)) (end_point coords (2 * i + 1)) i))) (eqb (get_or kinds i 0) 0)
      (λ y. tt) (λ y. segment_of (get_or faces i 0) (end_point coords (2 * i)) (end_point coords (2 * i + 1)) i l)

  piece_of : (i : ℕ) → i < n → Fine (piece_inserts v triangles kinds faces coords i)
  unfolding piece_inserts
  piece_of i l =
      all_append (OfPiece n) (end_inserts v triangles kinds faces coords i (2 * i) EndA) (end_inserts v triangles kinds faces coords i (2 * i + 1) EndB ++ whole_inserts v triangles kinds faces coords i) (end_of i (2 * i) EndA l)
      (all_append (OfPiece n) (end_inserts v triangles kinds faces coords i (2 * i + 1) EndB) (whole_inserts v triangles kinds faces coords i) (end_of i (2 * i + 1) EndB l) (whole_of i l))

pieces_of : (v : List Float) (triangles kinds faces : List ℕ) (coords : List Float) → All (OfPiece (length kinds)) (job_inserts v triangles kinds faces coords)
unfolding job_inserts
pieces_of v triangles kinds faces coords = each_all (OfPiece (length kinds)) (piece_inserts v triangles kinds faces coords) (length kinds) (λ i l. piece_of v triangles kinds faces coords (length kinds) i l)

entries_of_lem : (faces pieces : ℕ) (xs : List Insert) → All (OfFace faces) xs → All (OfPiece pieces) xs → All (λ (x : FaceEntry). (x.face < faces) × (x.entry.piece < pieces)) (entries_in xs)
unfolding entries_in
entries_of_lem faces pieces [] f p = tt
entries_of_lem faces pieces (Entry g x ∷ xs) f p = ((f.0, p.0), entries_of_lem faces pieces xs f.1 p.1)
entries_of_lem faces pieces (Offer o ∷ xs) f p = entries_of_lem faces pieces xs f.1 p.1

pub job_entries : (v : List Float) (triangles : List ℕ) (n : ℕ) → ValidTriangles triangles n → (kinds faces : List ℕ) (coords : List Float) → ((i : ℕ) → i < length kinds → get_or faces i 0 < length triangles / 3)
    → All (λ (x : FaceEntry). (x.face < length triangles / 3) × (x.entry.piece < length kinds)) (entries_in (job_inserts v triangles kinds faces coords))
job_entries v triangles n valid kinds faces coords there =
    entries_of_lem (length triangles / 3) (length kinds) (job_inserts v triangles kinds faces coords)
    (job_all (OfFace (length triangles / 3)) v triangles n valid kinds faces coords there (λ g piece part l. l) (λ g k l q p carriers. tt) (λ f k l q a b side. tt))
    (pieces_of v triangles kinds faces coords)

-- ---- the words of entries
first_within : (m : ℕ) (is : List ℕ) → All (λ (k : ℕ). k < m) is → first_link is ≤ m
unfolding first_link
first_within m [] a = omega arith
first_within m (k ∷ is) a = a.0

pub first_there : (f : ℕ) (xs : List FaceEntry) → first_link (numbers_of f xs) ≤ length xs
first_there f xs = first_within (length xs) (numbers_of f xs) (numbers_below f xs)

pub last_there : (f : ℕ) (xs : List FaceEntry) → final_link (numbers_of f xs) ≤ length xs
last_there f xs = go (final_link (numbers_of f xs)) refl where
  go : (k : ℕ) → final_link (numbers_of f xs) ≡ k → k ≤ length xs
  go zero h = omega arith
  go (suc k) h = final_in (λ (i : ℕ). i < length xs) (numbers_of f xs) k (numbers_below f xs) h

-- the first entry of the list is number k
pub link_below_lem : (k : ℕ) (xs : List FaceEntry) (i : ℕ) → i < length xs → get_or (entry_words_from k xs) (3 * i + 2) 0 ≤ k + length xs
unfolding entry_words_from
link_below_lem k [] i l = absurd (omega (arith, l))
link_below_lem k (x ∷ xs) zero l =
    let m = suc k + length xs in
    let e : m ≡ k + suc (length xs) = omega arith in
    subst (λ (z : ℕ). first_link (entry_numbers_from (suc k) x.face xs) ≤ z) e
    (first_within m (entry_numbers_from (suc k) x.face xs) (all_map {P = Numbered (suc k) x.face xs} {Q = λ (z : ℕ). z < m} (λ z q. q.high) (entry_numbers_from (suc k) x.face xs) (each_numbered (suc k) x.face xs)))
link_below_lem k (x ∷ xs) (suc i) l =
    let e : 3 * suc i + 2 ≡ suc (suc (suc (3 * i + 2))) = omega arith in
    let z = link_below_lem (suc k) xs i (omega (arith, l)) in
    let w : k + suc (length xs) ≡ suc k + length xs = omega arith in
    subst (λ (q : ℕ). get_or (entry_words_from k (x ∷ xs)) q 0 ≤ k + suc (length xs)) (sym e) (subst (λ (q : ℕ). get_or (entry_words_from (suc k) xs) (3 * i + 2) 0 ≤ q) (sym w) z)

pub piece_below : (pieces k : ℕ) (xs : List FaceEntry) → All (λ (x : FaceEntry). x.entry.piece < pieces) xs → (i : ℕ) → i < length xs → get_or (entry_words_from k xs) (3 * i + 0) 0 < pieces
unfolding entry_words_from
piece_below pieces k [] a i l = absurd (omega (arith, l))
piece_below pieces k (x ∷ xs) a zero l = a.0
piece_below pieces k (x ∷ xs) a (suc i) l =
    let e : 3 * suc i + 0 ≡ suc (suc (suc (3 * i + 0))) = omega arith in
    subst (λ (q : ℕ). get_or (entry_words_from k (x ∷ xs)) q 0 < pieces) (sym e) (piece_below pieces (suc k) xs a.1 i (omega (arith, l)))

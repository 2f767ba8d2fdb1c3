-- New windows set into an edge's list by one walk forward, each before the first window behind the last one seated that does not start before it. Definitions only.
use Rattle.std.specs.Prelude.{Bool, List, [], ◌∷◌, ◌++◌}
use Rattle.float64.specs.TotalOrder.{total_less}
use Rattle.trim_model.specs.Windows.{Window, take_while, drop_while}

-- v starts before n, by `total_cmp`
abbrev pub starts_under : Window → Window → Bool
starts_under n v = total_less v.b0 n.b0

-- n set in behind xs: the part up to and including n
abbrev pub seat_front : Window → List Window → List Window → List Window
seat_front n xs zs = xs ++ (take_while (starts_under n) zs ++ (n ∷ []))

-- what is left behind n
abbrev pub seat_rest : Window → List Window → List Window
seat_rest n zs = drop_while (starts_under n) zs

-- the windows of the first list, one after the other, each behind the one before
unfoldable pub seat_all : List Window → List Window → List Window → List Window
seat_all [] xs zs = xs ++ zs
seat_all (n ∷ ns) xs zs = seat_all ns (seat_front n xs zs) (seat_rest n zs)

-- Where each number of a buffer stands: how many elements a slot has, and at which of them each field is. The code's constants have the same
-- names (src/lib.rt). Each comment says what it is in 01's words.
use Rattle.std.specs.Prelude.{ℕ}

-- a job's slices: coordinates of a corner
abbrev pub coordinates_per_vertex : ℕ
coordinates_per_vertex = 3

-- corners of a triangle
abbrev pub vertices_per_triangle : ℕ
vertices_per_triangle = 3

-- coordinates of a piece's two ends
abbrev pub coordinates_per_piece : ℕ
coordinates_per_piece = 6

-- 01's corners, u32: words of each
abbrev pub words_per_vertex : ℕ
words_per_vertex = 3

-- the start of its faces
abbrev pub vertex_start : ℕ
vertex_start = 0

-- the end of its faces
abbrev pub vertex_end : ℕ
vertex_end = 1

-- its flag
abbrev pub vertex_flag : ℕ
vertex_flag = 2

-- 01's corners, f64: reals of each
abbrev pub reals_per_vertex : ℕ
reals_per_vertex = 2

-- distance
abbrev pub vertex_distance : ℕ
vertex_distance = 0

-- emitted
abbrev pub vertex_emitted : ℕ
vertex_emitted = 1

-- 01's faces round corners: words of each
abbrev pub words_per_round : ℕ
words_per_round = 1

-- a face
abbrev pub round_face : ℕ
round_face = 0

-- while edges are entered: the head of a bucket
abbrev pub round_head : ℕ
round_head = 0

-- 01's edges, u32: words of each
abbrev pub words_per_edge : ℕ
words_per_edge = 6

-- the lower of its two corners
abbrev pub edge_low : ℕ
edge_low = 0

-- the higher
abbrev pub edge_high : ℕ
edge_high = 1

-- the first of its two faces
abbrev pub edge_first_face : ℕ
edge_first_face = 2

-- the second, or no face
abbrev pub edge_second_face : ℕ
edge_second_face = 3

-- chain head
abbrev pub edge_head : ℕ
edge_head = 4

-- the word for scratch
abbrev pub edge_scratch : ℕ
edge_scratch = 5

-- 01's edges, f64: reals of each
abbrev pub reals_per_edge : ℕ
reals_per_edge = 4

-- length
abbrev pub edge_len : ℕ
edge_len = 0

-- unit vector, three reals
abbrev pub edge_unit : ℕ
edge_unit = 1

-- 01's triangles, u32: words of each, of which the first three are its edges, by side
abbrev pub words_per_triangle : ℕ
words_per_triangle = 6

-- first face entry
abbrev pub triangle_first_entry : ℕ
triangle_first_entry = 3

-- last face entry
abbrev pub triangle_last_entry : ℕ
triangle_last_entry = 4

-- 01's triangles, f64: reals of each, its three inward normals, by side
abbrev pub reals_per_triangle : ℕ
reals_per_triangle = 9

-- one of them
abbrev pub reals_per_normal : ℕ
reals_per_normal = 3

-- 01's windows, u32: words of each
abbrev pub words_per_window : ℕ
words_per_window = 4

-- edge
abbrev pub window_edge : ℕ
window_edge = 0

-- into
abbrev pub window_into : ℕ
window_into = 1

-- flags
abbrev pub window_flags : ℕ
window_flags = 2

-- link
abbrev pub window_link : ℕ
window_link = 3

-- a window's flags, of which its word is the sum: its source is a line
abbrev pub line_flag : ℕ
line_flag = 1

-- alive
abbrev pub alive_flag : ℕ
alive_flag = 2

-- queued
abbrev pub queued_flag : ℕ
queued_flag = 4

-- 01's windows, f64: reals of each
abbrev pub reals_per_window : ℕ
reals_per_window = 6

-- start
abbrev pub window_b0 : ℕ
window_b0 = 0

-- end
abbrev pub window_b1 : ℕ
window_b1 = 1

-- low
abbrev pub window_low : ℕ
window_low = 2

-- three of the source
abbrev pub window_s0 : ℕ
window_s0 = 3

-- the second of them
abbrev pub window_s1 : ℕ
window_s1 = 4

-- the third
abbrev pub window_s2 : ℕ
window_s2 = 5

-- 01's queue, u32; its keys stand alone in their slice: words of each
abbrev pub words_per_event : ℕ
words_per_event = 2

-- number
abbrev pub event_number : ℕ
event_number = 0

-- kind
abbrev pub event_kind : ℕ
event_kind = 1

-- a list of operations on windows, u32: additions, pops, touches: words of each
abbrev pub words_per_operation : ℕ
words_per_operation = 4

-- which it is
abbrev pub operation_kind : ℕ
operation_kind = 0

-- its edge, or its vertex
abbrev pub operation_number : ℕ
operation_number = 1

-- the face into which an added window goes
abbrev pub operation_into : ℕ
operation_into = 2

-- 1 where an added window is queued
abbrev pub operation_queued : ℕ
operation_queued = 3

-- a list of operations, f64: reals of each
abbrev pub reals_per_operation : ℕ
reals_per_operation = 5

-- the start of an added window, or a touch's distance
abbrev pub operation_b0 : ℕ
operation_b0 = 0

-- its end
abbrev pub operation_b1 : ℕ
operation_b1 = 1

-- three of its source
abbrev pub operation_s0 : ℕ
operation_s0 = 2

-- the second of them
abbrev pub operation_s1 : ℕ
operation_s1 = 3

-- the third
abbrev pub operation_s2 : ℕ
operation_s2 = 4

-- the edges on which such a list runs: two corners in one slice, its length in another: an edge's corners
abbrev pub words_per_ends : ℕ
words_per_ends = 2

-- the lower
abbrev pub ends_low : ℕ
ends_low = 0

-- the higher
abbrev pub ends_high : ℕ
ends_high = 1

-- an edge's length
abbrev pub reals_per_len : ℕ
reals_per_len = 1

-- 01's pieces, u32: words of each
abbrev pub words_per_piece : ℕ
words_per_piece = 3

-- the head of a bucket of ends
abbrev pub piece_head : ℕ
piece_head = 0

-- the links of its two ends
abbrev pub piece_links : ℕ
piece_links = 1

-- 01's pieces, f64: reals of each, its unit direction
abbrev pub reals_per_piece : ℕ
reals_per_piece = 3

-- 01's face entries: words of each
abbrev pub words_per_entry : ℕ
words_per_entry = 3

-- the piece
abbrev pub entry_piece : ℕ
entry_piece = 0

-- which part of it
abbrev pub entry_part : ℕ
entry_part = 1

-- link
abbrev pub entry_link : ℕ
entry_link = 2

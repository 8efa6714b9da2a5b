-- The numbers that document 01 fixes, by name.
use Rattle.std.specs.Prelude.{ℕ}

-- names are 0 to 63
abbrev pub max_name : ℕ
max_name = 63

-- a table has sixty-four rows, and a row sixty-four places
abbrev pub table_size : ℕ
table_size = 64

-- a row is filled up with 255
abbrev pub filler : ℕ
filler = 255

-- a child-name file has at most 8,192 bytes
abbrev pub max_file : ℕ
max_file = 8192

-- the largest component of a label
abbrev pub max_component : ℕ
max_component = 65534

-- the deepest level of a label
abbrev pub max_depth : ℕ
max_depth = 15

-- the most elements of a store, and the most labels of a stream
abbrev pub max_records : ℕ
max_records = 4096

-- the words of a label outside the store
abbrev pub label_size : ℕ
label_size = 16

-- the words of a record
abbrev pub record_size : ℕ
record_size = 20

-- word 16 of a record is the name
abbrev pub name_word : ℕ
name_word = 16

-- word 17 of a record is the next number f
abbrev pub next_word : ℕ
next_word = 17

-- words 18 and 19 of a record are the payload
abbrev pub payload_word : ℕ
payload_word = 18

-- the bytes of a twig's node
abbrev pub node_size : ℕ
node_size = 4

-- a twig has at most eight nodes
abbrev pub max_twig : ℕ
max_twig = 32

-- in a twig or in cutting, the name 255 asks for any name
abbrev pub any_name : ℕ
any_name = 255

-- node 0 of a twig has 255 for its parent's number
abbrev pub no_parent : ℕ
no_parent = 255

-- the most bytes of the store's file, of the program's stream buffer and of its match buffer
abbrev pub max_bytes : ℕ
max_bytes = 64000

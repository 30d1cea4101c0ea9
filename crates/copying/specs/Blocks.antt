-- The sizes of copies in blocks.
use Rattle.std.specs.Prelude.{ℕ, ◌+◌, ◌*◌}

-- how many bytes a block has
abbrev pub block_bytes : ℕ
block_bytes = 16

-- how many bytes are copied in blocks at most: the first one alone, and four blocks
abbrev pub front_bytes : ℕ
front_bytes = 1 + 4 * block_bytes

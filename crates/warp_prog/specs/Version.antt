-- The versions of the format of program files.
use Rattle.std.specs.Prelude.{ℕ}

-- the versions
abbrev pub first_version : ℕ
first_version = 1

abbrev pub second_version : ℕ
second_version = 2

abbrev pub third_version : ℕ
third_version = 3

abbrev pub last_version : ℕ
last_version = 4

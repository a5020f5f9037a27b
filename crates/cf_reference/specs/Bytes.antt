use Rattle.std.specs.Prelude.{ℕ}

-- Bytes by their names.

abbrev pub tab : ℕ
tab = 9

abbrev pub newline : ℕ
newline = 10

abbrev pub carriage_return : ℕ
carriage_return = 13

abbrev pub space : ℕ
space = 32

abbrev pub hash : ℕ
hash = 35

abbrev pub open_sign : ℕ
open_sign = 40

abbrev pub close_sign : ℕ
close_sign = 41

abbrev pub comma : ℕ
comma = 44

abbrev pub minus : ℕ
minus = 45

abbrev pub dot : ℕ
dot = 46

abbrev pub digit_0 : ℕ
digit_0 = 48

abbrev pub digit_1 : ℕ
digit_1 = 49

abbrev pub equals : ℕ
equals = 61

abbrev pub at_sign : ℕ
at_sign = 64

abbrev pub underscore : ℕ
underscore = 95

-- The numbers of codes.
use Rattle.std.specs.Prelude.{ℕ}
use Rattle.gabc_places.specs.declared.code.Code.{Code}
use Rattle.gabc_places.specs.declared.code.Code.TheVariants as code

abbrev pub number_of_code : Code → ℕ
number_of_code code.E1 = 101
number_of_code code.E2 = 102
number_of_code code.E3 = 103
number_of_code code.E4 = 104
number_of_code code.E5 = 105
number_of_code code.E6 = 106
number_of_code code.W1 = 201
number_of_code code.W2 = 202
number_of_code code.W3 = 203
number_of_code code.W4 = 204
number_of_code code.W5 = 205
number_of_code code.W6 = 206
number_of_code code.W7 = 207
number_of_code code.W8 = 208
number_of_code code.W9 = 209
number_of_code code.W10 = 210
number_of_code code.W11 = 211
number_of_code code.W12 = 212
number_of_code code.F1 = 301
number_of_code code.F2 = 302
number_of_code code.F3 = 303
number_of_code code.F4 = 304
number_of_code code.F5 = 305
number_of_code code.F6 = 306
number_of_code code.F7 = 307

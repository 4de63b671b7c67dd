-- Roots that are computed: a table of operands and their roots by bit patterns. Assumes nothing.
use mathlib.Core.Path.{◌≡◌, refl}
use mathlib.Core.Bool.{Bool, true, ◌&&◌}
use mathlib.Core.List.{List, [], ◌∷◌}
use Prim.Native.Nat.{ℕ}
use lib.Dec.{eqb}
use lib.Ieee.{binary64, of_bits, to_bits}
use Rattle.floats.specs.Root.{root}

record Case : Type 0 where
  operand : ℕ
  its_root : ℕ

abbrev case : ℕ → ℕ → Case
case x r = record { operand = x; its_root = r }

holds : List Case → Bool
unfolding root of_bits to_bits
holds [] = true
holds (c ∷ cs) = eqb (to_bits binary64 (root binary64 (of_bits binary64 c.operand))) c.its_root && holds cs

-- 2 ^ -1074, -0, 1, 2, the largest value, and eight roots near a value of the format or near a middle of two, from exact integers of another program
cases : List Case
cases =
    case 0x1 0x1e60_0000_0000_0000
    ∷ case 0x8000_0000_0000_0000 0x8000_0000_0000_0000
    ∷ case 0x3ff0_0000_0000_0000 0x3ff0_0000_0000_0000
    ∷ case 0x4000_0000_0000_0000 0x3ff6_a09e_667f_3bcd
    ∷ case 0x7fef_ffff_ffff_ffff 0x5fef_ffff_ffff_ffff
    ∷ case 0x0df4_dbea_0f3c_da9b 0x26f2_44c8_2aaf_0dd3
    ∷ case 0x1d67_97a8_399a_40f3 0x2eab_79fa_d141_18b8
    ∷ case 0x6d11_36a0_d8f7_4a4e 0x5680_9879_e4ae_d853
    ∷ case 0x2eff_7b6e_5484_adf9 0x3776_718e_ae9a_e871
    ∷ case 0x4503_5128_5136_9db0 0x4278_dccd_d3f0_5d28
    ∷ case 0x4434_4c00_54e0_e6ee 0x4212_0554_b0f9_c786
    ∷ case 0x3cb2_9054_78d8_6baf 0x3e51_3bfa_2f45_89e8
    ∷ case 0x3516_b0a5_23a7_e2c6 0x3a83_0db9_d66a_8516
    ∷ []

all_hold : holds cases ≡ true
unfolding holds cases
all_hold = refl

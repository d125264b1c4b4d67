-- Values as they are printed (01, "Table of examples").
-- Assumes nothing.
use Rattle.std.specs.Prelude.{◌≡◌, List, [], ◌∷◌, map, ℕ}
use Prim.Native.String.{String}
use Rattle.scan.specs.Ascii.{ascii}
use Rattle.element.specs.declared.ElementType.{ElementType}
use Rattle.element.specs.declared.ElementType.TheVariants.{I1, I8, I16, I32, I64, U8, U16, U32, U64}
use Rattle.printed.specs.Printed.{printed}

-- a tensor's element type, shape and slots, and its line
pub record Printing : Type 0 where
  pub element : ElementType
  pub dims : List ℕ
  pub slots : List ℕ
  pub line : String

abbrev printing : ElementType → List ℕ → List ℕ → String → Printing
printing e dims slots line = record { element = e; dims = dims; slots = slots; line = line }

abbrev pub printings : List Printing
printings =
    -- 01's sample
    printing U16 (1 ∷ []) (1725 ∷ []) "dense<[1725]> : tensor<1xui16>"
    -- "Booleans are `true` and `false`; numbers are decimal"; "printed as `i8`"
    ∷ printing I1 [] (1 ∷ []) "dense<true> : tensor<i1>"
    ∷ printing I1 [] (0 ∷ []) "dense<false> : tensor<i1>"
    ∷ printing I8 [] (0 ∷ []) "dense<0> : tensor<i8>"
    ∷ printing I8 [] (1 ∷ []) "dense<1> : tensor<i8>"
    ∷ printing I8 [] (9 ∷ []) "dense<9> : tensor<i8>"
    ∷ printing I8 [] (10 ∷ []) "dense<10> : tensor<i8>"
    ∷ printing I8 [] (99 ∷ []) "dense<99> : tensor<i8>"
    ∷ printing I8 [] (100 ∷ []) "dense<100> : tensor<i8>"
    ∷ printing I8 [] (109 ∷ []) "dense<109> : tensor<i8>"
    ∷ printing I8 [] (127 ∷ []) "dense<127> : tensor<i8>"
    ∷ printing I8 [] (18446744073709551615 ∷ []) "dense<-1> : tensor<i8>"
    ∷ printing I8 [] (18446744073709551606 ∷ []) "dense<-10> : tensor<i8>"
    ∷ printing I8 [] (18446744073709551488 ∷ []) "dense<-128> : tensor<i8>"
    ∷ printing I16 [] (18446744073709518848 ∷ []) "dense<-32768> : tensor<i16>"
    ∷ printing I32 [] (18446744071562067968 ∷ []) "dense<-2147483648> : tensor<i32>"
    ∷ printing I64 [] (9223372036854775808 ∷ []) "dense<-9223372036854775808> : tensor<i64>"
    ∷ printing I64 [] (9223372036854775807 ∷ []) "dense<9223372036854775807> : tensor<i64>"
    ∷ printing U8 [] (255 ∷ []) "dense<255> : tensor<ui8>"
    ∷ printing U16 [] (65535 ∷ []) "dense<65535> : tensor<ui16>"
    ∷ printing U32 [] (4294967295 ∷ []) "dense<4294967295> : tensor<ui32>"
    ∷ printing U64 [] (18446744073709551615 ∷ []) "dense<18446744073709551615> : tensor<ui64>"
    -- "lists nested one level per dimension", "`, ` between items"
    ∷ printing I8 (1 ∷ []) (5 ∷ []) "dense<[5]> : tensor<1xi8>"
    ∷ printing I8 (3 ∷ []) (1 ∷ 18446744073709551614 ∷ 3 ∷ []) "dense<[1, -2, 3]> : tensor<3xi8>"
    ∷ printing I8 (2 ∷ 3 ∷ []) (1 ∷ 2 ∷ 3 ∷ 4 ∷ 5 ∷ 6 ∷ []) "dense<[[1, 2, 3], [4, 5, 6]]> : tensor<2x3xi8>"
    ∷ printing I8 (3 ∷ 2 ∷ []) (1 ∷ 2 ∷ 3 ∷ 4 ∷ 5 ∷ 6 ∷ []) "dense<[[1, 2], [3, 4], [5, 6]]> : tensor<3x2xi8>"
    ∷ printing I8 (2 ∷ 1 ∷ 2 ∷ []) (1 ∷ 2 ∷ 3 ∷ 4 ∷ []) "dense<[[[1, 2]], [[3, 4]]]> : tensor<2x1x2xi8>"
    ∷ printing I1 (2 ∷ 2 ∷ []) (1 ∷ 0 ∷ 0 ∷ 1 ∷ []) "dense<[[true, false], [false, true]]> : tensor<2x2xi1>"
    -- never one literal for every element
    ∷ printing I8 (2 ∷ []) (5 ∷ 5 ∷ []) "dense<[5, 5]> : tensor<2xi8>"
    -- "(`[[], []]` for 2x0, `[]` for 0x2)"
    ∷ printing I8 (2 ∷ 0 ∷ []) [] "dense<[[], []]> : tensor<2x0xi8>"
    ∷ printing I8 (0 ∷ 2 ∷ []) [] "dense<[]> : tensor<0x2xi8>"
    ∷ printing I8 (0 ∷ []) [] "dense<[]> : tensor<0xi8>"
    ∷ printing U8 (1 ∷ 0 ∷ 2 ∷ []) [] "dense<[[]]> : tensor<1x0x2xui8>"
    ∷ printing I8 (12 ∷ []) (0 ∷ 0 ∷ 0 ∷ 0 ∷ 0 ∷ 0 ∷ 0 ∷ 0 ∷ 0 ∷ 0 ∷ 0 ∷ 0 ∷ []) "dense<[0, 0, 0, 0, 0, 0, 0, 0, 0, 0, 0, 0]> : tensor<12xi8>"
    ∷ []

abbrev pub PrintPinsHold : Type 0
PrintPinsHold = map (λ (p : Printing). printed p.element p.dims p.slots) printings ≡ map (λ (p : Printing). ascii p.line) printings

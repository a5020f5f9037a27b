-- Calls over variables, on worked scripts.
use Rattle.std.proofs.Common.{◌≡◌, [], ◌∷◌, ◌++◌, refl}
use Rattle.std.specs.Prelude.{codes}
use Rattle.cf_reference.proofs.ScriptExamples.{script, text}

restricted : text (codes "level 1" ∷ codes "var a b" ∷ codes "let f = and(a,b)" ∷ codes "let g = restrict(f,a,1)" ∷ codes "equal g b" ∷ codes "let h = restrict(f,@0,0)" ∷ codes "first h 1" ∷ [])
    ≡ script (codes "equal" ∷ codes "none" ∷ [])
unfolding text
restricted = refl

-- what a restriction leaves out counts as a part
restricted_part : text (codes "level 1" ∷ codes "let f = restrict(plus(170141183460469231731687303715884105727,@0),@0,0)" ∷ []) ≡ codes "refused 2 14 10" ++ 10 ∷ []
unfolding text
restricted_part = refl

-- of 4 variables
some_settings : text (codes "level 2" ∷ codes "var a b c" ∷ codes "let f = and(a,xor(b,c))" ∷ codes "let g = exists(f,b)" ∷ codes "equal g a" ∷ codes "let h = exists(f,a,@1,c)" ∷ codes "first h 0" ∷ [])
    ≡ script (codes "equal" ∷ codes "none" ∷ [])
unfolding text
some_settings = refl

every_setting : text (codes "level 2" ∷ codes "var a b c" ∷ codes "let f = or(a,and(b,c))" ∷ codes "let g = forall(f,c)" ∷ codes "equal g a" ∷ codes "let h = forall(f,a,@1)" ∷ codes "first h 1" ∷ [])
    ≡ script (codes "equal" ∷ codes "none" ∷ [])
unfolding text
every_setting = refl

-- nonzero is true, also below 0
truths : text (codes "level 1" ∷ codes "let f = exists(minus(@1,@0),@0)" ∷ codes "list f 1 4" ∷ []) ≡ script (codes "00" ∷ codes "01" ∷ codes "10" ∷ codes "11" ∷ codes "listed 4" ∷ [])
unfolding text
truths = refl

summed : text (codes "level 2" ∷ codes "var a b" ∷ codes "let f = plus(a,times(b,2))" ∷ codes "let g = sumout(f,a,b)" ∷ codes "value g 0110" ∷ codes "let h = sumout(f,a)" ∷ codes "value h 0110" ∷ [])
    ≡ script (codes "6" ∷ codes "5" ∷ [])
unfolding text
summed = refl

-- the second time a variable's two values are equal
summed_twice : text (codes "level 2" ∷ codes "var a b" ∷ codes "let f = plus(a,times(b,2))" ∷ codes "let g = sumout(f,a)" ∷ codes "let h = sumout(f,a,@0)" ∷ codes "let twice = times(g,2)" ∷ codes "equal h twice" ∷ [])
    ≡ codes "equal" ++ 10 ∷ []
unfolding text
summed_twice = refl

-- One variable after another: over b first the values make up for each other, over a first they don't fit.
summed_in_order : text (codes "level 1" ∷ codes "var a b" ∷ codes "let f = times(minus(1,times(b,2)),170141183460469231731687303715884105727)" ∷ codes "let g = sumout(f,b,a)" ∷ codes "value g 11" ∷ codes "let h = sumout(f,a,b)" ∷ [])
    ≡ script (codes "0" ∷ codes "refused 6 14 00" ∷ [])
unfolding text
summed_in_order = refl

-- the step over a fits, and the one over b fails where c is 1
summed_step : text (codes "level 2" ∷ codes "var a b c" ∷ codes "let f = sumout(times(a,c,170141183460469231731687303715884105727),a,b,c)" ∷ []) ≡ codes "refused 3 14 0010" ++ 10 ∷ []
unfolding text
summed_step = refl

composed : text (codes "level 2" ∷ codes "var a b c" ∷ codes "let f = xor(a,b)" ∷ codes "let g = compose(f,a,times(b,-3))" ∷ codes "first g 1" ∷ codes "let h = compose(f,@0,and(a,c))" ∷ codes "list h 1 2" ∷ [])
    ≡ script (codes "none" ∷ codes "0100" ∷ codes "0101" ∷ codes "listed 2" ∷ [])
unfolding text
composed = refl

both_for_some : text (codes "level 2" ∷ codes "var a b c" ∷ codes "let f = andexists(xor(a,b),xor(b,c),b)" ∷ codes "let g = xor(a,c)" ∷ codes "let h = not(g)" ∷ codes "equal f h" ∷ [])
    ≡ codes "equal" ++ 10 ∷ []
unfolding text
both_for_some = refl

-- A variable's position is below the number of variables of the function that the call is on.
no_position : text (codes "level 1" ∷ codes "let f = exists(@0,@2)" ∷ []) ≡ codes "refused 2 11" ++ 10 ∷ []
unfolding text
no_position = refl

position_of_level_0 : text (codes "level 1" ∷ codes "var a b" ∷ codes "let f = sumout(const(0,1),a)" ∷ codes "value f 0" ∷ codes "let g = sumout(const(0,1),a,b)" ∷ []) ≡ script (codes "2" ∷ codes "refused 5 11" ∷ [])
unfolding text
position_of_level_0 = refl

position_above_level : text (codes "level 0" ∷ codes "let f = restrict(const(1,7),@1,0)" ∷ codes "value f 01" ∷ []) ≡ codes "7" ++ 10 ∷ []
unfolding text
position_above_level = refl

-- a function's name is no variable
no_variable : text (codes "level 1" ∷ codes "let f = @0" ∷ codes "let g = forall(f,f)" ∷ []) ≡ codes "refused 3 6" ++ 10 ∷ []
unfolding text
no_variable = refl

-- An unknown variable is refused at its place, before the call's rules; levels are compared before positions.
variable_first : text (codes "level 1" ∷ codes "let f = andexists(@0,const(0,1),c)" ∷ []) ≡ codes "refused 2 6" ++ 10 ∷ []
unfolding text
variable_first = refl

level_first : text (codes "level 1" ∷ codes "let f = andexists(@0,const(0,1),@5)" ∷ []) ≡ codes "refused 2 9" ++ 10 ∷ []
unfolding text
level_first = refl

name_before_position : text (codes "level 1" ∷ codes "let f = compose(@0,@5,g)" ∷ []) ≡ codes "refused 2 6" ++ 10 ∷ []
unfolding text
name_before_position = refl

position_last : text (codes "level 1" ∷ codes "let f = compose(@0,@5,@1)" ∷ []) ≡ codes "refused 2 11" ++ 10 ∷ []
unfolding text
position_last = refl

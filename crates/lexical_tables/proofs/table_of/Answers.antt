-- Each table is computed and compared with the rule, `pairs`. `refl` is told the rule, so that the refusal of a wrong
-- table says which byte differs.
use Rattle.std.proofs.Common.{refl}
use Rattle.lexical_tables.specs.Pairs.{pairs}
use Rattle.lexical_tables.proofs.table_of.Goals as goal

pub returns-in-2 : goal.returns-in-2
unfolding pairs
returns-in-2 c = rw c.in-2.is (refl {a = pairs 2})

pub returns-in-3 : goal.returns-in-3
unfolding pairs
returns-in-3 c = rw c.in-3.is (refl {a = pairs 3})

pub returns-in-4 : goal.returns-in-4
unfolding pairs
returns-in-4 c = rw c.in-4.is (refl {a = pairs 4})

pub returns-in-5 : goal.returns-in-5
unfolding pairs
returns-in-5 c = rw c.in-5.is (refl {a = pairs 5})

pub returns-in-6 : goal.returns-in-6
unfolding pairs
returns-in-6 c = rw c.in-6.is (refl {a = pairs 6})

pub returns-in-7 : goal.returns-in-7
unfolding pairs
returns-in-7 c = rw c.in-7.is (refl {a = pairs 7})

pub returns-in-8 : goal.returns-in-8
unfolding pairs
returns-in-8 c = rw c.in-8.is (refl {a = pairs 8})

pub returns-in-9 : goal.returns-in-9
unfolding pairs
returns-in-9 c = rw c.in-9.is (refl {a = pairs 9})

pub returns-in-10 : goal.returns-in-10
unfolding pairs
returns-in-10 c = rw c.in-10.is (refl {a = pairs 10})

pub returns-in-11 : goal.returns-in-11
unfolding pairs
returns-in-11 c = rw c.in-11.is (refl {a = pairs 11})

pub returns-in-12 : goal.returns-in-12
unfolding pairs
returns-in-12 c = rw c.in-12.is (refl {a = pairs 12})

pub returns-in-13 : goal.returns-in-13
unfolding pairs
returns-in-13 c = rw c.in-13.is (refl {a = pairs 13})

pub returns-in-14 : goal.returns-in-14
unfolding pairs
returns-in-14 c = rw c.in-14.is (refl {a = pairs 14})

pub returns-in-15 : goal.returns-in-15
unfolding pairs
returns-in-15 c = rw c.in-15.is (refl {a = pairs 15})

pub returns-in-16 : goal.returns-in-16
unfolding pairs
returns-in-16 c = rw c.in-16.is (refl {a = pairs 16})

pub returns-in-17 : goal.returns-in-17
unfolding pairs
returns-in-17 c = rw c.in-17.is (refl {a = pairs 17})

pub returns-in-18 : goal.returns-in-18
unfolding pairs
returns-in-18 c = rw c.in-18.is (refl {a = pairs 18})

pub returns-in-19 : goal.returns-in-19
unfolding pairs
returns-in-19 c = rw c.in-19.is (refl {a = pairs 19})

pub returns-in-20 : goal.returns-in-20
unfolding pairs
returns-in-20 c = rw c.in-20.is (refl {a = pairs 20})

pub returns-in-21 : goal.returns-in-21
unfolding pairs
returns-in-21 c = rw c.in-21.is (refl {a = pairs 21})

pub returns-in-22 : goal.returns-in-22
unfolding pairs
returns-in-22 c = rw c.in-22.is (refl {a = pairs 22})

pub returns-in-23 : goal.returns-in-23
unfolding pairs
returns-in-23 c = rw c.in-23.is (refl {a = pairs 23})

pub returns-in-24 : goal.returns-in-24
unfolding pairs
returns-in-24 c = rw c.in-24.is (refl {a = pairs 24})

pub returns-in-25 : goal.returns-in-25
unfolding pairs
returns-in-25 c = rw c.in-25.is (refl {a = pairs 25})

pub returns-in-26 : goal.returns-in-26
unfolding pairs
returns-in-26 c = rw c.in-26.is (refl {a = pairs 26})

pub returns-in-27 : goal.returns-in-27
unfolding pairs
returns-in-27 c = rw c.in-27.is (refl {a = pairs 27})

pub returns-in-28 : goal.returns-in-28
unfolding pairs
returns-in-28 c = rw c.in-28.is (refl {a = pairs 28})

pub returns-in-29 : goal.returns-in-29
unfolding pairs
returns-in-29 c = rw c.in-29.is (refl {a = pairs 29})

pub returns-in-30 : goal.returns-in-30
unfolding pairs
returns-in-30 c = rw c.in-30.is (refl {a = pairs 30})

pub returns-in-31 : goal.returns-in-31
unfolding pairs
returns-in-31 c = rw c.in-31.is (refl {a = pairs 31})

pub returns-in-32 : goal.returns-in-32
unfolding pairs
returns-in-32 c = rw c.in-32.is (refl {a = pairs 32})

pub returns-in-33 : goal.returns-in-33
unfolding pairs
returns-in-33 c = rw c.in-33.is (refl {a = pairs 33})

pub returns-in-34 : goal.returns-in-34
unfolding pairs
returns-in-34 c = rw c.in-34.is (refl {a = pairs 34})

pub returns-in-35 : goal.returns-in-35
unfolding pairs
returns-in-35 c = rw c.in-35.is (refl {a = pairs 35})

pub returns-in-36 : goal.returns-in-36
unfolding pairs
returns-in-36 c = rw c.in-36.is (refl {a = pairs 36})

-- Skelet 17, 1RB---_0LC1RE_0LD1LC_1RA1LB_0RB0RA, never halts; the pair that halts is A1.
--
--          0    1
--     A   1RB  ---
--     B   0LC  1RE
--     C   0LD  1LC
--     D   1RA  1LB
--     E   0RB  0RA
--
-- **What is on the tape** (Groups). A list of numbers: each number a is a group of a words 10, and a one stands between
-- two groups.
--
--     groups a0 (a1, a2, .., an)        $ (10)^an 1 .. 1 (10)^a2 1 (10)^a1 1 (10)^a0 B> $
--
-- **What a tick does.** C goes off to the left over even groups, up to the first odd one, and E comes back. The first
-- group loses a word, and the group behind the first odd one gains one:
--
--     ai is the first odd one, i < n    a0 -> a0 - 1, a(i + 1) -> a(i + 1) + 1
--     all are even (overflow)           a0 -> a0 - 1, an -> an + 1, and two groups 0, 0 behind it
--     only an is odd (top)              a0 -> a0 - 1, an -> an + 1, and three groups 1, 0, 0 behind it
--
-- where a0 is 0, that group is dropped instead. The even groups that C goes over, from the second on, must not be
-- empty: an empty one is where the machine would halt.
--
-- **Why: a Gray code** (Gray, Phases). Let G_k(v) be the number of odd multiples of 2^k from 1 to v; their parities are
-- the digits of the Gray code of v, and from v to v + 1 just one of them grows. So where the groups have the parities
-- of G_0(v), G_1(v), .., a tick does to them what counting up does to G; and where they are an even number less G, what
-- counting down does. No rule for lists is needed: the ticks are proved by induction on the binary digits of v.
--
-- **Rounds** (Rounds). A round goes up from a counter w until the first group is used up, then down to zero, where all
-- groups are even and the list grows by two; then down from the top, until the first group is used up again. Before and
-- after it the list is of one form, for numbers B_1, B_2, .. (Level in Levels), which change by one chip: the round
-- adds one to one of them, or takes one from w. Which one the next round changes follows from the equations that the
-- numbers obey (Balance): Chips.
--
-- **Levels** (Levels). Where a chip makes the first number a power of two, the round ends in a top, and a list with two
-- numbers more begins another level. So from each of these lists the run comes to another one, and never halts. That a
-- level ends isn't needed: a level that never ended would never halt either. The run comes to the first list after 239
-- steps.
pub mod Gray
pub mod Groups
pub mod Phases
pub mod Rounds
pub mod Chips
pub mod Levels

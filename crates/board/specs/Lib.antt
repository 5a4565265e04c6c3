-- The board of a register (Board, Full) and the one after a conviction, shown first (Preview); what is claimed of whole lists of calls (Claims), of previews (Previews), of a crew's board (Crew), of
-- what is shown (Shows) and of bursts with a pause between them (Bursts), when it has no bytes (Nothing), how short it can be else (Shortest), the positions to check (Positions), a board
-- and a preview worked out (Worked), a register of the layout before, carried over (Carried); and what a board shows of fixes (Latest).
pub mod Board
pub mod Full
pub mod Preview
pub mod Claims
pub mod Previews
pub mod Crew
pub mod Shows
pub mod Bursts
pub mod Nothing
pub mod Shortest
pub mod Positions
pub mod Worked
pub mod Carried
pub mod Latest
pub mod Drawn
